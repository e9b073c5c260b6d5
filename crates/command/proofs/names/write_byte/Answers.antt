-- One glyph more, which is one byte.
use Rattle.std.specs.Prelude.{◌<◌, ◌≡◌, ◌∷◌, ◌++◌, [], All}
use Rattle.std.specs.Char.Iter.{escape_byte_rest}
use Rattle.std.proofs.Common.{refl, sym, ap, subst, ◌∙◌, append_assoc}
use Rattle.std.proofs.lemmas.List.Elements.{All-head, All-tail}
use Rattle.std.proofs.lemmas.Str.{encode_ascii}
use Rattle.std.proofs.Output.{has_written_append, has_written_of_eq}
use Rattle.command.proofs.names.write_byte.Goals as goal

pub loop-glyph-preserved : goal.loop-glyph-preserved
loop-glyph-preserved g c =
    let rest = escape_byte_rest c.next.new.self in
    let front : escape_byte_rest c.loop-glyph.glyph-iterator ≡ c.in-Some.glyph ∷ rest = c.in-Some.ensures.steps.1.0 in
    let ascii = subst (All (λ b. b < 128)) front c.loop-glyph.invariant.ascii in
    record {
      split = append_assoc c.loop-glyph.yielded (c.in-Some.glyph ∷ []) rest
          ∙ ap (λ x. c.loop-glyph.yielded ++ x) (sym front) ∙ c.loop-glyph.invariant.split;
      ascii = All-tail (λ b. b < 128) c.in-Some.glyph rest ascii;
      text = λ plain. let so_far = c.loop-glyph.invariant.text plain in
          has_written_append _ _ _ _ _ _ so_far
          (has_written_of_eq _ _ _ _ _ (encode_ascii c.in-Some.glyph (All-head (λ b. b < 128) c.in-Some.glyph rest ascii))
          (c.in_ok-write_char.ensures.writes so_far.plain refl));
    }

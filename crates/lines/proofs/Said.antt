-- What the last line says, line by line.
use Rattle.std.proofs.Common.{◌≡◌, List, [], ◌∷◌, sym, ap, ◌∙◌}
use Rattle.std.specs.Prelude.{Option, None}
use Rattle.lines.specs.Ending.{said_last, ending_of}
use Rattle.lines.specs.Finished.{Finished}
use Rattle.lines.specs.declared.line.Line.{Line}
use Rattle.lines.specs.declared.ending.Ending.{Ending}

module _ {A : Type 0} (of_line : A → Option Ending) where
  pub said_more : (o p e : Option Ending) (x : A) (ls ms : List A) → said_last of_line o ls ≡ e → ls ≡ x ∷ ms
      → p ≡ of_line x → said_last of_line p ms ≡ e
  unfolding said_last
  said_more o p e x ls ms h q r =
      ap (λ (y : Option Ending). said_last of_line y ms) r ∙ ap (said_last of_line o) (sym q) ∙ h

  pub said_end : (o e : Option Ending) (ls : List A) → said_last of_line o ls ≡ e → ls ≡ [] → o ≡ e
  unfolding said_last
  said_end o e ls h q = sym (ap (said_last of_line o) q) ∙ h

-- a listing that ends is not over before a line says so
pub said_none : (ls : List Line) → Finished ls → None ≡ ending_of ls → ⊥
said_none ls f e = let p = e ∙ f.told in cc

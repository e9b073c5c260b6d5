use Rattle.std.proofs.Common.{ℕ, List, [], ◌∷◌, ◌++◌, ◌+◌, ◌≡◌, length, length-append, drop, refl, sym, ap, ◌∙◌}
use Rattle.std.proofs.Common.{subst, arith}
use Rattle.table.specs.Held.{Held}
use Rattle.written.specs.Layout.{table_length, written}
use Rattle.written.specs.Stands.{Stands}
use Rattle.written.proofs.Pieces.{header_stands, end}
use Rattle.extract.specs.Records.{record_count, rows_below, rows_of}
use Rattle.extract.proofs.Fills.{other_row, told_at, next_row, Next, next, row_stands}
use Rattle.extract.proofs.Extract.fill.Goals as goal
use Rattle.extract.proofs.Extract.fill.Goals.{in-Sound, in_default}

pub loop-i-init : goal.loop-i-init
unfolding rows_below
loop-i-init c = record {
  row = refl;
  stands =
      let s = c.args.shape in
      header_stands s.size s.base s.count c.args.table.now c.copy_from_slice.new.self
      (c.copy_from_slice.ensures.after ∙ c.header.ensures) c.requires.room;
}

pub put-requires-clause-good : goal.put-requires-clause-good
put-requires-clause-good c =
    let x = c.args.self.now in
    let n = next x c.loop-i.i _ _ _ c.record.ensures.record c.judge.ensures c.in-Sound.is c.loop-i-test.true
    c.count-i-end.ensures c.requires.numbers in
    n.good

pub put-requires-clause-number : goal.put-requires-clause-number
put-requires-clause-number c =
    let x = c.args.self.now in
    let n = next x c.loop-i.i _ _ _ c.record.ensures.record c.judge.ensures c.in-Sound.is c.loop-i-test.true
    c.count-i-end.ensures c.requires.numbers in
    n.number

pub put-requires-clause-row : goal.put-requires-clause-row
put-requires-clause-row c =
    let x = c.args.self.now in
    let n = next x c.loop-i.i _ _ _ c.record.ensures.record c.judge.ensures c.in-Sound.is c.loop-i-test.true
    c.count-i-end.ensures c.requires.numbers in
    let m = n.more in omega (arith, c.loop-i.invariant.row, c.requires.count)

pub overflow_add-row : goal.overflow_add-row
overflow_add-row c =
    let x = c.args.self.now in
    let n = next x c.loop-i.i _ _ _ c.record.ensures.record c.judge.ensures c.in-Sound.is c.loop-i-test.true
    c.count-i-end.ensures c.requires.numbers in
    let m = n.more in let f = c.args.shape.few in omega (arith, c.loop-i.invariant.row, c.requires.count)

pub loop-i-preserved : goal.loop-i-preserved
loop-i-preserved c =
    let x = c.args.self.now in let i = c.loop-i.i in
    let size = c.args.shape.size in let base = c.args.shape.base in let k = c.args.shape.count in
    let old = c.args.table.now in
    let rows = rows_below x i in
    elim c.match-judge.branch [
      | in-Sound w ↦
          let n = subst (Next x i) (sym c.requires.count)
          (next x i _ _ _ c.record.ensures.record c.judge.ensures w.in-Sound.is c.loop-i-test.true
          c.count-i-end.ensures c.requires.numbers) in
          record {
            row = w.row-is ∙ ap (λ (j : ℕ). j + 1) c.loop-i.invariant.row
                ∙ sym (ap length n.rows ∙ length-append rows (next_row x i ∷ []));
            stands = row_stands x i size base k c.loop-i.row old c.loop-i.table _ n (sym c.requires.size)
                c.requires.room c.loop-i.invariant.row (w.table-is ∙ w.put.ensures) c.loop-i.invariant.stands;
          }
      | in_default w ↦
          let e = other_row x i _ w.in_default.not-Sound (told_at x i _ _ c.record.ensures.record c.judge.ensures) in
          record {
            row = w.row-is ∙ c.loop-i.invariant.row ∙ sym (ap length e);
            stands = subst (λ (t : List ℕ). Stands size base k (rows_below x (i + 1)) old t) (sym w.table-is)
                (subst (λ (rs : List Held). Stands size base k rs old c.loop-i.table) (sym e)
                c.loop-i.invariant.stands);
          }
    ]

pub returns : goal.returns
returns c =
    let x = c.args.self.now in
    let size = c.args.shape.size in let base = c.args.shape.base in let k = c.args.shape.count in
    let old = c.args.table.now in
    let e : c.loop-i.i ≡ record_count x = omega arith in
    end size base k (rows_of x) old c.loop-i.table
    (subst (λ (i : ℕ). Stands size base k (rows_below x i) old c.loop-i.table) e c.loop-i.invariant.stands)
    (sym c.requires.count)
    ∙ ap (λ (m : ℕ). written m base (rows_of x) ++ drop (table_length size k) old) c.requires.size
    ∙ ap (λ (m : ℕ). written x.size m (rows_of x) ++ drop (table_length size k) old) c.requires.base

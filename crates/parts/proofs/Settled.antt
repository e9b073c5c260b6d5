-- Two results that report the same are equal, and so are the lists that they left.
use Rattle.std.proofs.Common.{◌≡◌, sym, refl, ap, ◌∙◌}
use Rattle.fields.specs.Laws.{Settles}
use Rattle.fields.proofs.Settled.{told-settled}
use Rattle.parts.specs.declared.Filled.{Filled}
use Rattle.parts.specs.Filled.{Told, collected}
use Rattle.parts.specs.Laws.{FilledSettle}

same : (r t : Filled) → r.count ≡ t.count → r.answer ≡ t.answer → r.reads ≡ t.reads → r ≡ t
same r t c a k = rw (c, a, k) refl

pub filled_settle : FilledSettle
filled_settle xs ys r t a e h =
    let x = e ∙ sym h in (
      ap (λ (z : Told). z.list) x,
      same r t (ap (λ (z : Told). z.count) x) (told-settled r.answer t.answer _ (ap (λ (z : Told). z.answer) x) refl)
          (ap (λ (z : Told). z.reads) x),
    )

pub collected_settle : Settles collected
collected_settle r t a e h =
    let w = filled_settle r.parts t.parts r.filled t.filled a e h in let x = w.0 in let y = w.1 in
    rw (x, y) refl

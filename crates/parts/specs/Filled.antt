-- RULES 15, 17: what a call for parts reports, and what stands in the lent list behind it.
use Rattle.std.specs.Prelude.{ℕ, ◌+◌, List, [], ◌∷◌, length, slice_set, replicate}
use Rattle.fields.specs.Answer.{Outcome}
use Rattle.fields.specs.Told.{told}
use Rattle.parts.specs.Parts.{Given, Parts}
use Rattle.parts.specs.declared.Part.{Part}
use Rattle.parts.specs.declared.Filled.{Filled}
use Rattle.parts.specs.declared.Collected.{Collected}

-- parts go to the front, in the order of the list; what stands behind them is unchanged
unfoldable pub put : List Part → ℕ → List Given → List Part
put xs k [] = xs
put xs k (g ∷ gs) = put (slice_set xs k g.part) (k + 1) gs

pub record Told : Type 0 where
  pub list : List Part
  pub count : ℕ
  pub answer : Outcome Unit
  pub reads : ℕ

abbrev pub tells : List Part → ℕ → Outcome Unit → ℕ → Told
tells xs k a r = record { list = xs; count = k; answer = a; reads = r }

-- a lent list filled, and what is reported
unfoldable pub told_parts : List Part → Parts → Told
told_parts lent p = tells (put lent 0 p.given) (length p.given) p.answer (length p.reads)

abbrev pub filled : List Part → Filled → Told
filled xs r = tells xs r.count (told r.answer) r.reads

-- as many entries as a list in the largest record has room for, 4,096 / 26
abbrev pub most_parts : ℕ
most_parts = 157

-- what stands in an array before a part is written there
abbrev pub no_part : Part
no_part = record {
  file = record { 0 = 0 };
  offset = 0;
  lowest = record { 0 = 0 };
  runs = record { from = 0; bytes = 0 };
  size = 0;
  listed = record { 0 = 0 };
}

unfoldable pub blank_parts : List Part
blank_parts = replicate most_parts no_part

-- parts by value
abbrev pub collected : Collected → Told
collected c = filled c.parts c.filled

-- What holds of these definitions at every number and at every answer; src/laws.rt has the functions whose
-- contracts these are.
use Rattle.std.specs.Prelude.{ℕ, ◌+◌, ◌*◌, ◌^◌, ◌<◌, ◌≤◌, ◌≡◌, List, ◌++◌, get_or, length, take, drop}
use Rattle.fields.specs.Le.{le}
use Rattle.fields.specs.LeBytes.{le_bytes}

-- a wide number is its low part and, scaled, its high part: at every width, wherever it is cut
abbrev pub NumbersSplit : Type 0
NumbersSplit = (a b : ℕ) (s : List ℕ) (i : ℕ) → le (a + b) s i ≡ le a s i + 256 ^ a * le b s (i + a)

-- w bytes stand for a number below 256 to the w
abbrev pub NumbersFit : Type 0
NumbersFit = (w : ℕ) (s : List ℕ) (i : ℕ) → ((k : ℕ) → get_or s k 0 < 256) → le w s i < 256 ^ w

-- a number that w bytes can stand for is read back from them, whatever stands behind; and what w bytes stand for is
-- written as they are
abbrev pub NumbersReadBack : Type 0
NumbersReadBack = (w n : ℕ) (more : List ℕ) → n < 256 ^ w → le w (le_bytes w n ++ more) 0 ≡ n

abbrev pub NumbersWriteBack : Type 0
NumbersWriteBack = (w : ℕ) (s : List ℕ) (i : ℕ) → ((k : ℕ) → get_or s k 0 < 256) → i + w ≤ length s
    → le_bytes w (le w s i) ≡ take w (drop i s)

-- two results that say the same answer are equal, so a contract that states the answer leaves no choice
abbrev pub Settles : {R B : Type 0} → (R → B) → Type 0
Settles {R} {B} says = (r t : R) (a : B) → says r ≡ a → says t ≡ a → r ≡ t

-- clap says of the command line by which kinds of error it refuses words.
use Rattle.std.proofs.Common.{ℕ, ◌≡◌, List, [], ap, subst, refl, true, Result, Err, inl, inr}
use Rattle.clap.specs.Words.{App, HasKind, app_of, fault_of, is_simple_and_free, kind_of}
use Rattle.clap.specs.declared.builder.command.Command.{Command}
use Rattle.clap.specs.declared.error.Error.{Error}
use Rattle.clap.proofs.OnLiterals.{clap_on_literals}
use Rattle.command.specs.declared.status.Status.{Status}
use Rattle.nomutanku.specs.CommandLine.{Is, command_line}
use Rattle.nomutanku.specs.Answers.{Answers, Tells}
use Rattle.nomutanku.specs.declared.failed.Failed.{Failed}
use Rattle.nomutanku.specs.declared.failed.Failed.TheVariants.{Memory}

simple : is_simple_and_free command_line ≡ true
unfolding clap_on_literals
simple = refl

told : (words : List (List ℕ)) (e : Error) (result : Result Status Failed) → HasKind (fault_of command_line words) e
    → Tells (kind_of e) result → Answers words result
told words e result (inl memory) tells = λ _. inl (tells.0 memory)
told words e result (inr among) tells = λ _. inr (kind_of e, among, tells)

pub refused : (c : Command) (words : List (List ℕ)) (e : Error) (result : Result Status Failed) → Is command_line c
    → (is_simple_and_free (app_of c) ≡ true → HasKind (fault_of (app_of c) words) e) → Tells (kind_of e) result
    → Answers words result
refused c words e result is kinds =
    told words e result
    (subst (λ (a : App). is_simple_and_free a ≡ true → HasKind (fault_of a words) e) is.0 kinds simple)

pub taken : (c : Command) (words : List (List ℕ)) (result : Result Status Failed) → Is command_line c
    → (is_simple_and_free (app_of c) ≡ true → fault_of (app_of c) words ≡ []) → Answers words result
taken c words result is none = λ some.
    absurd (some (subst (λ (a : App). is_simple_and_free a ≡ true → fault_of a words ≡ []) is.0 none simple))

pub no_memory : (words : List (List ℕ)) (failed : Failed) → failed ≡ Memory → Answers words (Err failed)
no_memory words failed is = λ _. inl (ap Err is)

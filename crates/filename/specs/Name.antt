-- RULES 26.1, 26.2: the name in a file name value (FILE_NAME).
use Rattle.std.specs.Prelude.{ℕ, ◌+◌, ◌*◌, List, Bool, true, false, length, get_or, take, drop, eqb, ltb}
use Rattle.std.specs.Prelude.{Option, Some, None}
use Rattle.fields.specs.Pick.{pick}
use Rattle.filename.specs.declared.value.Namespace.{Namespace}
use Rattle.filename.specs.declared.value.Namespace.TheVariants.{Posix, Win32, Dos, Win32AndDos, Other}
use Rattle.filename.specs.declared.value.FileName.{FileName}

unfoldable pub namespace_of : ℕ → Namespace
namespace_of k =
    pick (eqb k 0) Posix
    (pick (eqb k 1) Win32
    (pick (eqb k 2) Dos
    (pick (eqb k 3) Win32AndDos
    (Other k))))

-- a name that is not the short one, which DOS programs see
unfoldable pub is_long : Namespace → Bool
is_long Posix = true
is_long Win32 = true
is_long Dos = false
is_long Win32AndDos = true
is_long (Other k) = false

pub record Name : Type 0 where
  pub namespace : Namespace
  pub bytes : List ℕ

abbrev pub name : Namespace → List ℕ → Name
name k b = record { namespace = k; bytes = b }

abbrev pub shown_name : FileName → Name
shown_name n = name n.namespace n.bytes.now

-- FileNameLength, Flags, FileName; a value that ends before its name does has none
unfoldable pub name_of : List ℕ → Option Name
name_of v =
    pick (ltb (length v) 66) None
    (pick (ltb (length v) (66 + 2 * get_or v 64 0)) None
    (Some (name (namespace_of (get_or v 65 0)) (take (2 * get_or v 64 0) (drop 66 v)))))

-- The numbers that a written header tells.
use Rattle.std.proofs.Common.{ℕ, ◌<◌, ◌≡◌, refl, List, ◌++◌, drop, arith, append_assoc}
use Rattle.fields.specs.LeBytes.{le_bytes}
use Rattle.table.specs.Layout.{numbers_at, header_size}
use Rattle.written.specs.Layout.{header_bytes, records_from}
use Rattle.written.specs.Laws.{numbers_of}
use Rattle.written.proofs.Bytes.{le_bytes_long, read_at, drop_on}

module _ (t : List ℕ) (a b c d e : ℕ) (more : List ℕ)
    (is : t ≡ le_bytes 4 a ++ (le_bytes 4 b ++ (le_bytes 4 c ++ (le_bytes 4 d ++ (le_bytes 4 e ++ more))))) where
  second : drop 4 t ≡ le_bytes 4 b ++ (le_bytes 4 c ++ (le_bytes 4 d ++ (le_bytes 4 e ++ more)))
  second = drop_on t (le_bytes 4 a) _ 0 4 (le_bytes_long 4 a) is

  third : drop 8 t ≡ le_bytes 4 c ++ (le_bytes 4 d ++ (le_bytes 4 e ++ more))
  third = drop_on t (le_bytes 4 b) _ 4 4 (le_bytes_long 4 b) second

  fourth : drop 12 t ≡ le_bytes 4 d ++ (le_bytes 4 e ++ more)
  fourth = drop_on t (le_bytes 4 c) _ 8 4 (le_bytes_long 4 c) third

  fifth : drop 16 t ≡ le_bytes 4 e ++ more
  fifth = drop_on t (le_bytes 4 d) _ 12 4 (le_bytes_long 4 d) fourth

  five_back : a < 4294967296 → b < 4294967296 → c < 4294967296 → d < 4294967296 → e < 4294967296
      → numbers_at t ≡ record { count = a; size = b; directory = c; records = d; base = e }
  unfolding numbers_at
  five_back f g h k l =
      rw (
        read_at 4 a t _ 0 f is,
        read_at 4 b t _ 4 g second,
        read_at 4 c t _ 8 h third,
        read_at 4 d t _ 12 k fourth,
        read_at 4 e t _ 16 l fifth,
      ) refl

-- the five numbers of a header are read again, whatever stands behind it
pub numbers_back : (size base k : ℕ) (more : List ℕ) → k < 4294967296 → size < 4294967296
    → records_from k < 4294967296 → base < 4294967296
    → numbers_at (header_bytes size base k ++ more) ≡ numbers_of size base k
unfolding header_bytes
numbers_back size base k more a b c d =
    five_back (header_bytes size base k ++ more) k size header_size (records_from k) base more (simp append_assoc)
    a b (omega arith) c d

-- What is told of the bytes of a file.
use Rattle.std.specs.Prelude.{◌≡◌, ℕ, List, length}
use Rattle.sha2.specs.Hashers.{Holds256}
use Rattle.sha2.specs.Sha256.{sha256}
use Rattle.lab_report.specs.declared.content.Content as declared
use Rattle.lab_report.specs.declared.content.Hashing.{Hashing}

-- it is told of these bytes: so many are they, and that is their SHA-256
pub record IsContentOf (bytes : List ℕ) (c : declared.Content) : Type 0 where
  pub length_is : c.length ≡ length bytes
  pub digest_is : c.sha256 ≡ sha256 bytes

-- how many bytes were handed on so far
abbrev pub count_of : Hashing → ℕ
count_of h = h.length

-- these bytes were handed on so far
pub record HasHashedBytes (bytes : List ℕ) (h : Hashing) : Type 0 where
  pub held : Holds256 h.hasher bytes
  pub counted : h.length ≡ length bytes

-- two say the same: in how many bytes, and in their SHA-256
pub record IsSameContent (a b : declared.Content) : Type 0 where
  pub length_is : a.length ≡ b.length
  pub digest_is : a.sha256 ≡ b.sha256

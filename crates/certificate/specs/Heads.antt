-- What the head of whole bytes gives.
use Rattle.std.specs.Prelude.{◌≡◌, ℕ, List}
use Rattle.page_layout.specs.declared.geometry.Geometry.{Geometry}
use Rattle.certificate.specs.declared.head.Head.{Head}
use Rattle.certificate.specs.Claim.{sizes_of}
use Rattle.certificate.specs.Reading.{sizes_in, capacity_in, next_sequence_in}
use Rattle.certificate.specs.Faults.{HasLimits, HasPromisedBytes}

-- the numbers of a whole head are within their limits, and are these
pub record IsLimitsOf (bytes : List ℕ) (geometry : Geometry) (capacity : ℕ) : Type 0 where
  pub numbers : HasLimits bytes
  pub sizes_are : sizes_of geometry ≡ sizes_in bytes
  pub capacity_is : capacity ≡ capacity_in bytes

-- the bytes are as many as their head promises, and its numbers are these
pub record IsHeadOf (bytes : List ℕ) (head : Head) : Type 0 where
  pub whole : HasPromisedBytes bytes
  pub sizes_are : sizes_of head.geometry ≡ sizes_in bytes
  pub capacity_is : head.capacity ≡ capacity_in bytes
  pub next_is : head.next ≡ next_sequence_in bytes

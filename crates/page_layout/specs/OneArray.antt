-- The sequences of the records that an image has.
use Rattle.std.specs.Prelude.{◌≡◌, ℕ, ◌<◌, List, get_or, Option, Some, None}
use Rattle.page_layout.specs.declared.record.Record.{Record}

-- no two sound pages share a sequence
pub record AreDistinct (marks : List (Option Record)) : Type 0 where
  pub apart : (a b : ℕ) (x y : Record) → get_or marks a None ≡ Some x → get_or marks b None ≡ Some y → x.sequence ≡ y.sequence → a ≡ b

-- every sound page's sequence is below this one
pub record AreBelow (marks : List (Option Record)) (next : ℕ) : Type 0 where
  pub below : (row : ℕ) (x : Record) → get_or marks row None ≡ Some x → x.sequence < next

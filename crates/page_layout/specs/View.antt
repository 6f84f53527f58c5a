-- What contracts say of a source of pages, by one record: its pages, and numbers and yes or no of the source as it stands.
use Rattle.std.specs.Prelude.{ℕ, Bool, Option}
use Rattle.page_layout.specs.Flash.{Flash}
use Rattle.page_layout.specs.Recording.{Recording}
use Rattle.page_layout.specs.DieCalls.{DieCall}

-- THE VIEW OF A KIND OF SOURCE: its pages; the record that it tells, or none; whether it is honest, and whether nothing can make it fail;
-- the reads, programs and erases asked for so far, and the faults so far; and its own word for a call of it
pub record View (S : Type 0) : Type 1 where
  pub flash : S → Flash
  pub recorded : S → Option Recording
  pub honest : S → Bool
  pub calm : S → Bool
  pub reads : S → ℕ
  pub programs : S → ℕ
  pub erases : S → ℕ
  pub failed : S → ℕ
  pub called : S → DieCall → S → Type 0

-- How often a log failed.
use Rattle.std.specs.Prelude.{ℕ, Bool, not, List, count_by}
use Rattle.page_layout.specs.Flash.{Operation}
use Rattle.promises.specs.Log.{has_passed}

abbrev pub has_failed : Operation → Bool
has_failed op = not (has_passed op)

-- the operations that were answered Failed
abbrev pub failures : List Operation → ℕ
failures log = count_by has_failed log

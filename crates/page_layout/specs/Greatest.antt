-- The one place at which a partial function on the numbers below n is greatest.
use Rattle.std.specs.Prelude.{◌≡◌, ◌≢◌, ℕ, zero, suc, ◌<◌, ◌≤◌, nat_lt, if◌then◌else◌, Option, Some, None}
use Rattle.page_layout.specs.declared.newest.Latest.{Latest}
use Rattle.page_layout.specs.declared.newest.Latest.TheVariants.{Never, Once, Tied}

-- the value at this place is greater than that at every other place that has one
pub record IsGreatest (f : ℕ → Option ℕ) (place : ℕ) : Type 0 where
  pub value : ℕ
  pub here : f place ≡ Some value
  pub others : (q s : ℕ) → q ≢ place → f q ≡ Some s → s < value

-- what is known of the greatest value when one more place, later than all so far, is looked at
abbrev pub step : Latest → ℕ → Option ℕ → Latest
step b place None = b
step Never place (Some s) = Once place s
step (Once q t) place (Some s) =
    if nat_lt t s then Once place s else (if nat_lt s t then Once q t else Tied q place t)
step (Tied a b t) place (Some s) = if nat_lt t s then Once place s else Tied a b t

-- two places share the greatest value
pub record SharesGreatest (f : ℕ → Option ℕ) (a b : ℕ) : Type 0 where
  pub order : a < b
  pub value : ℕ
  pub at_first : f a ≡ Some value
  pub at_second : f b ≡ Some value
  pub greatest_value : (q s : ℕ) → f q ≡ Some s → s ≤ value

-- what is known of the greatest value once the places below n were looked at
unfoldable pub best : (ℕ → Option ℕ) → ℕ → Latest
best f zero = Never
best f (suc n) = step (best f n) n (f n)

-- the place at which the value is known to be greatest, or none
abbrev pub place_of : Latest → Option ℕ
place_of Never = None
place_of (Once place t) = Some place
place_of (Tied a b t) = None

-- what is so of f where this is known of it: it has no value, is greatest at this place, or shares its greatest value at these two
abbrev pub Describes : (ℕ → Option ℕ) → Latest → Type 0
Describes f Never = (q s : ℕ) → f q ≢ Some s
Describes f (Once place t) = IsGreatest f place
Describes f (Tied a b t) = SharesGreatest f a b

-- the place below n at which f is greatest, or none
unfoldable pub greatest : (ℕ → Option ℕ) → ℕ → Option ℕ
greatest f n = place_of (best f n)

-- A chip of which nothing is claimed.
use Rattle.std.specs.Prelude.{◌≡◌, true, false}

-- a law that is kept nowhere says nothing
pub no_law : {A : Type 0} → false ≡ true → A
no_law e = absurd (cc)

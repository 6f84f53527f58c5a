-- Single bytes of a page.
use Rattle.std.specs.Prelude.{ℕ, ◌==◌, Bool, List}
use Rattle.std.specs.List.{list_any}

-- whether a byte is 00h
abbrev pub has_zero : List ℕ → Bool
has_zero bytes = list_any (λ byte. byte == 0) bytes

-- What holds of all spellings.
use Rattle.std.specs.Prelude.{◌≡◌, ℕ, List, [], ◌++◌}
use Rattle.certificate.specs.Claim.{Claim}
use Rattle.certificate.specs.Spelling.{Fits, certificate_bytes}

-- two claims that fit are never spelled alike
abbrev pub OneSpelling : Type 0
OneSpelling = (c d : Claim) → Fits c → Fits d → certificate_bytes c ≡ certificate_bytes d → c ≡ d

-- no spelling is a proper beginning of another
abbrev pub NoneBeginsAnother : Type 0
NoneBeginsAnother = (c d : Claim) (rest : List ℕ) → Fits c → Fits d → certificate_bytes c ++ rest ≡ certificate_bytes d → rest ≡ []

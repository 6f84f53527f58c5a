-- How many bytes a certificate has.
use Rattle.std.proofs.Common.{◌≡◌, ℕ, List, length, ap, ◌∙◌, arith}
use Rattle.page_layout.specs.declared.geometry.Geometry.{Geometry}
use Rattle.certificate.specs.Claim.{Claim}
use Rattle.certificate.specs.Reading.{sizes_in, claim_at}
use Rattle.certificate.specs.Spelling as spelling
use Rattle.certificate.proofs.FaultLemmas.{whole_again}
use Rattle.certificate.proofs.LawLemmas.{claim_is}
use Rattle.image_check.specs.Agrees.{IsAsked}
use Rattle.ftl_disk.specs.Measures.{certificate_length}

-- those of one of a die of this geometry
pub certificate_sized : (g : Geometry) (cache : ℕ) (c : Claim) (bytes : List ℕ) → bytes ≡ spelling.certificate_bytes c → spelling.Fits c → IsAsked g cache c → length bytes ≡ certificate_length g
unfolding claim_at
certificate_sized g cache c bytes is fits asked =
    let sizes : sizes_in (spelling.certificate_bytes c) ≡ c.sizes = ap (λ (d : Claim). d.sizes) (claim_is c fits) in
    let long = (whole_again c fits).length_is ∙ ap spelling.layout (sizes ∙ asked.geometry) in
    omega (arith, ap length is, long)

-- No claim has two spellings, and no spelling begins another.
use Rattle.std.proofs.Common.{◌≡◌, [], sym, ap, ◌∙◌}
use Rattle.std.proofs.lemmas.List.{append-nil, append_cancel_left}
use Rattle.certificate.specs.Claim.{Claim}
use Rattle.certificate.specs.Spelling.{certificate_bytes, Fits}
use Rattle.certificate.specs.Reading.{claim_in}
use Rattle.certificate.specs.Laws.{OneSpelling, NoneBeginsAnother}
use Rattle.certificate.proofs.ReadLemmas.{claim_again}

pub claim_is : (c : Claim) → Fits c → claim_in (certificate_bytes c) ≡ c
claim_is c fits = ap claim_in (sym (append-nil (certificate_bytes c))) ∙ claim_again c [] fits

pub one_spelling : OneSpelling
one_spelling c d fits_c fits_d e = sym (claim_is c fits_c) ∙ (ap claim_in e ∙ claim_is d fits_d)

pub none_begins_another : NoneBeginsAnother
none_begins_another c d rest fits_c fits_d e =
    let same : c ≡ d = sym (claim_again c rest fits_c) ∙ (ap claim_in e ∙ claim_is d fits_d) in
    append_cancel_left (certificate_bytes c) rest [] (e ∙ (ap certificate_bytes (sym same) ∙ sym (append-nil (certificate_bytes c))))

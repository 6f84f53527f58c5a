use Rattle.std.proofs.Common.{◌≡◌, true, false, ◌++◌, ◌+◌, ◌-◌, take, drop, sym, ap, ◌∙◌, subst}
use Rattle.sha2.specs.Hashers.{Holds256}
use Rattle.sha2.specs.Sha256.{sha256}
use Rattle.lab_mend.specs.Seal.{begins_as_record}
use Rattle.lab_mend.proofs.SealLemmas.{begins_so, rest_is, same_bytes, sealed_so}
use Rattle.lab_mend.proofs.seal.may_be_sound.Goals as goal

pub returns-then-not-begins_as_record : goal.returns-then-not-begins_as_record
returns-then-not-begins_as_record c = λ sound.
    let bytes = c.args.bytes.now in
    let size = c.args.size in
    let yes : begins_as_record (drop size bytes) ≡ true = begins_so size bytes c.requires.room sound in
    let no : begins_as_record (drop size bytes) ≡ false = ap begins_as_record (sym (rest_is size bytes)) ∙ (sym c.begins_as_record.ensures ∙ c.if-not-begins_as_record.true) in
    absurd (cc)

pub returns : goal.returns
returns c = λ sound.
    let bytes = c.args.bytes.now in
    let size = c.args.size in
    let taken = c.args.prefix.now.taken in
    let seal = sealed_so size taken bytes c.requires.within c.requires.room sound in
    let held : Holds256 c.in-Ok.hasher (take taken bytes) = subst (λ h. Holds256 h (take taken bytes)) (sym c.in-Ok.ensures.cases) c.requires.holds in
    let more : Holds256 c.update.new.self (take taken bytes ++ take (size + 24 - taken) (drop taken bytes)) = c.update.ensures (take taken bytes) held in
    let digest : c.finalize.result ≡ sha256 (take taken bytes ++ take (size + 24 - taken) (drop taken bytes)) = c.finalize.ensures (take taken bytes ++ take (size + 24 - taken) (drop taken bytes)) more in
    c.eq.ensures ∙ same_bytes _ _ (ap (λ d. take 8 d) digest ∙ (sym seal ∙ ap (λ r. take 8 (drop 24 r)) (sym (rest_is size bytes))))

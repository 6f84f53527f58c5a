use Rattle.std.proofs.Common.{◌≡◌, ◌≢◌, ◌⊎◌, inl, inr, ℕ, ◌≤◌, List, Result, Ok, Err, refl, sym, ap, subst, ◌∙◌}
use Rattle.page_layout.specs.declared.geometry.Geometry.{Geometry}
use Rattle.page_layout.specs.Page.{IsImage}
use Rattle.page_layout.specs.Counter.{HasRisen}
use Rattle.page_layout.specs.Flash.{Flash}
use Rattle.page_layout.specs.View.{View}
use Rattle.certificate.specs.Claim.{Claim}
use Rattle.image_check.specs.Accepted.{Acceptance, IsAcceptance}
use Rattle.image_check.specs.declared.refusal.Refusal.{Refusal}
use Rattle.image_check.specs.declared.refusal.Refusal.TheVariants.{Source}
use Rattle.collection.proofs.Costs.{risen_over}
use Rattle.onfi_cycles.specs.Driver.{flash_by}
use Rattle.ftl_device.specs.Device.{IsAcceptedFor}
use Rattle.ftl_device.specs.declared.device.Device.{Device}
use Rattle.command_queue.specs.Exchanges.{Exchange, exchanges_of}
use Rattle.command_queue.specs.Run.{RanFrom}
use Rattle.command_queue.proofs.ToldLemmas.{until_known}
use Rattle.device_tests.proofs.tests.lists.run_on_die.Goals as goal

-- what was accepted for the image before the reads is so for that after them
accepted_for : (s t : Flash) (g : Geometry) (capacity : ℕ) (c : Claim) (a : Acceptance) → t ≡ s → s.geometry ≡ g → IsImage g s.image → IsAcceptance g capacity s.image c a → IsAcceptedFor t a
accepted_for s t g capacity c a same sized whole is =
    let cap : capacity ≡ a.claim.capacity = sym (ap (λ (x : Claim). x.capacity) is.claim_is ∙ is.agrees.asked.capacity_same) in
    let here : IsAcceptance g a.claim.capacity s.image a.claim a = subst (λ n. IsAcceptance g n s.image a.claim a) cap (subst (λ (x : Claim). IsAcceptance g capacity s.image x a) (sym is.claim_is) is) in
    let P : Geometry → Flash → Type 0 = λ h f. IsImage h f.image × IsAcceptance h a.claim.capacity f.image a.claim a in
    let both : P s.geometry s = subst (λ h. P h s) (sym sized) (whole, here) in
    let there : P t.geometry t = subst (λ (f : Flash). P f.geometry f) (sym same) both in
    record { whole = there.0; accepted = there.1 }

-- a run from the die after the reads, by what was accepted, is one from it before them, by what was given
ran_of : {N : Type 0} {view : View N} {s t : Flash} {c d : Claim} {xs : List Exchange} {new : Device N} → s ≡ t → c ≡ d → RanFrom view s 0 c xs new → RanFrom view t 0 d xs new
ran_of {N} {view} {s} {t} {c} {d} {xs} {new} same claimed ran = subst (λ x. RanFrom view x 0 d xs new) same (subst (λ k. RanFrom view s 0 k xs new) claimed ran)

risen_since : {A : Type 0} (a b c : ℕ) → a ≤ b → A ⊎ HasRisen b c → A ⊎ HasRisen a c
risen_since a b c le (inl x) = inl x
risen_since a b c le (inr risen) = inr (risen_over a b c le risen)

abbrev accepted_as : Acceptance → Result Acceptance Refusal
accepted_as a = Ok a

not_refused : (a : Acceptance) (e : Refusal) → accepted_as a ≢ Err e
not_refused a e is = (let never : ⊥ = cc in never)

pub returns-in-Ok : goal.returns-in-Ok
returns-in-Ok c =
    let its = c.in_ok-accepted.ensures in
    let same = its.same (not_refused c.in_ok-accepted.accepted Source) refl in
    let accepted = accepted_for (flash_by (λ die. die.state) c.args.driver) (flash_by (λ die. die.state) c.check.new.source) c.args.geometry.now 4 c.args.certificate.now c.in_ok-accepted.accepted same c.requires.same (its.whole refl) (its.ok refl) in
    record {
      rose = risen_since c.args.driver.failures c.check.new.source.failures c.in-Ok.device.engine.nand.failures its.only_reads.failed_is (c.in-Ok.ensures.rose);
      ran = λ known. ran_of same its.accepted.0 (until_known _ _ _ _ c.in-Ok.ensures.until known refl accepted).1;
    }

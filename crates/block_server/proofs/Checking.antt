-- What was served over a checked die.
use Rattle.std.proofs.Common.{◌≡◌, ◌≢◌, ◌⊎◌, inl, inr, ℕ, ◌≤◌, Bool, true, List, arith, Option, None, Result, Ok, Err, refl, sym, ap, subst, ◌∙◌}
use Rattle.std.specs.Prelude.{is_some}
use Rattle.page_layout.specs.View.{View}
use Rattle.page_layout.specs.declared.geometry.Geometry.{Geometry}
use Rattle.page_layout.specs.Page.{IsImage}
use Rattle.page_layout.specs.Array.{HasOneArray}
use Rattle.page_layout.specs.Counter.{HasRisen}
use Rattle.page_layout.specs.Flash.{Flash}
use Rattle.certificate.specs.Claim.{Claim}
use Rattle.allocation.specs.View.{state}
use Rattle.promises.specs.Run.{log_of}
use Rattle.promises.specs.Legal.{IsLegal, accounts_of}
use Rattle.image_check.specs.Accepted.{Acceptance, IsAcceptance}
use Rattle.image_check.specs.declared.refusal.Refusal.{Refusal}
use Rattle.image_check.specs.declared.refusal.Refusal.TheVariants.{Source}
use Rattle.collection.specs.State.{Ram}
use Rattle.collection.specs.Safe.{ram, image_in}
use Rattle.collection.specs.Truth.{IsTrue}
use Rattle.collection.specs.Log.{IsAccounted}
use Rattle.collection.proofs.Costs.{risen_over}
use Rattle.request_stream.specs.declared.reply.ServeFault.{ServeFault}
use Rattle.ftl_device.specs.declared.device.Device.{Device}
use Rattle.ftl_device.specs.Device.{IsDevice, IsAcceptedFor}
use Rattle.ftl_device.specs.Begin.{begun_ram, is_bad_in, free_in, is_scarce}
use Rattle.ftl_device.specs.Calls.{stop_of, IsWell}
use Rattle.command_queue.specs.Exchanges.{Exchange, AreKnown, replies_in}
use Rattle.command_queue.specs.Tells.{Tells}
use Rattle.command_queue.specs.Run.{HasRun, HappensEach, Ran, RanFrom, accepted_first, accepted_device}
use Rattle.command_queue.specs.Told.{RunsTo, Until}
use Rattle.ftl_device.specs.declared.fault.DeviceFault.TheVariants.{BusFault}
use Rattle.command_queue.proofs.AcceptedLemmas.{started_well, ran_accepted, ran_each}
use Rattle.command_queue.proofs.ToldLemmas.{until_so, fault_rose}
use Rattle.block_server.specs.declared.server.Served.{Served}
use Rattle.block_server.specs.Session.{Session, ServesRequests}
use Rattle.block_server.specs.Checked.{HoldsTo, HasBusFailed, IsBegunFromClaim, IsServed}

-- what was accepted for the image before the reads is so for that after them
pub accepted_for : (s t : Flash) (g : Geometry) (capacity : ℕ) (c : Claim) (a : Acceptance) → t ≡ s → s.geometry ≡ g → IsImage g s.image → IsAcceptance g capacity s.image c a → IsAcceptedFor t a
accepted_for s t g capacity c a same sized whole is =
    let cap : capacity ≡ a.claim.capacity = sym (ap (λ (x : Claim). x.capacity) is.claim_is ∙ is.agrees.asked.capacity_same) in
    let here : IsAcceptance g a.claim.capacity s.image a.claim a = subst (λ n. IsAcceptance g n s.image a.claim a) cap (subst (λ (x : Claim). IsAcceptance g capacity s.image x a) (sym is.claim_is) is) in
    let P : Geometry → Flash → Type 0 = λ h f. IsImage h f.image × IsAcceptance h a.claim.capacity f.image a.claim a in
    let both : P s.geometry s = subst (λ h. P h s) (sym sized) (whole, here) in
    let there : P t.geometry t = subst (λ (f : Flash). P f.geometry f) (sym same) both in
    record { whole = there.0; accepted = there.1 }

abbrev accepted_as : Acceptance → Result Acceptance Refusal
accepted_as a = Ok a

pub not_refused : (a : Acceptance) (e : Refusal) → accepted_as a ≢ Err e
not_refused a e is = (let never : ⊥ = cc in never)

abbrev refused_as : Refusal → Result Acceptance Refusal
refused_as e = Err e

pub refusal_same : (e : Refusal) → e ≢ Source → refused_as e ≢ refused_as Source
refusal_same e ne is = ne (cc)

pub refusal_is : (e : Refusal) → e ≡ Source → refused_as e ≡ refused_as Source
refusal_is e is = ap refused_as is

-- the run of the headline, its log, and the calls that are its events
record RunsLegally {N : Type 0} (view : View N) (share : ℕ) (d e : Device N) (g : Geometry) (c : Claim) (s t : Flash) (ro pinned : Bool) (xs : List Exchange) : Type 0 where
  pub run : HasRun (accepted_first g share c) (accepted_device s c) (record { flash = t; ro = ro; pinned = pinned }) xs
  pub legal : IsLegal g s.image (is_bad_in c) (log_of run.events)
  pub each : HappensEach view d run.events xs e

-- Of a die as it was handed in, as the checker left it, and as the device gives it back.
module _ {N : Type 0} (view : View N) (nand checked given : N) (g : Geometry) (share capacity : ℕ) (c : Claim) (a : Acceptance) (d : Device N)
    (sized : (view.flash nand).geometry ≡ g) (sized' : (view.flash checked).geometry ≡ (view.flash nand).geometry)
    (honest_is : view.honest checked ≡ view.honest nand) (calm_is : view.calm checked ≡ view.calm nand) (failed_is : view.failed nand ≤ view.failed checked)
    (same : view.honest nand ≡ true → view.flash checked ≡ view.flash nand) (told : view.honest nand ≡ true → view.recorded checked ≡ view.recorded nand) (whole : view.honest nand ≡ true → IsImage g (view.flash nand).image)
    (claim_is : a.claim ≡ c) (acceptance : view.honest nand ≡ true → IsAcceptance g capacity (view.flash nand).image c a)
    (device : IsDevice view.flash d) (nand_is : d.engine.nand ≡ checked) (begun : ram d.engine ≡ begun_ram (view.flash checked).geometry share a.claim a.stale)
    (truth : view.honest checked ≡ true → IsAcceptedFor (view.flash checked) a → IsTrue None (ram d.engine) (image_in view.flash d.engine))
    (free : view.honest checked ≡ true → IsAcceptedFor (view.flash checked) a → d.read_only ≡ is_scarce (free_in (view.flash checked).geometry a.claim (view.flash checked).image))
    (accounts : view.honest checked ≡ true → IsAcceptedFor (view.flash checked) a → IsAccounted (accounts_of (view.flash checked).geometry (view.flash checked).image (is_bad_in a.claim)) (state d.engine.blocks)) where
  pub geometry_is : d.engine.geometry ≡ g
  geometry_is = ap (λ (r : Ram). r.geometry) begun ∙ (sized' ∙ sized)

  accepted : view.honest nand ≡ true → IsAcceptedFor (view.flash checked) a
  accepted h = accepted_for (view.flash nand) (view.flash checked) g capacity c a (same h) sized (whole h) (acceptance h)

  known_truth : view.honest nand ≡ true → IsTrue None (ram d.engine) (image_in view.flash d.engine)
  known_truth h = truth (honest_is ∙ h) (accepted h)

  pub well : view.honest nand ≡ true → IsWell view.flash d
  well h = started_well view.flash d (view.flash checked).geometry share a.claim a.stale begun (known_truth h)

  -- it is read-only just where fewer than five blocks are free in the image
  pub closed_as : view.honest nand ≡ true → d.read_only ≡ is_scarce (free_in g c (view.flash nand).image)
  closed_as h =
      free (honest_is ∙ h) (accepted h) ∙ (ap (λ (f : Flash). is_scarce (free_in f.geometry a.claim f.image)) (same h)
      ∙ (ap (λ k. is_scarce (free_in k a.claim (view.flash nand).image)) sized ∙ ap (λ k. is_scarce (free_in g k (view.flash nand).image)) claim_is))

  one_array : view.honest nand ≡ true → HasOneArray g (view.flash nand).image
  one_array h =
      subst (λ (f : Flash). HasOneArray g f.image) (ap view.flash nand_is ∙ same h)
      (subst (λ k. HasOneArray k (image_in view.flash d.engine)) geometry_is (known_truth h).one)

  -- the exchanges that lead to this device
  module _ (xs : List Exchange) (e : Device N) (runs_to : RunsTo view d xs e) where
    runs : view.honest nand ≡ true → RunsLegally view share d e g c (view.flash nand) (view.flash e.engine.nand) e.read_only (is_some e.engine.pinned) xs
    runs h =
        let ran : Ran view d xs e = (runs_to.1 (ap view.honest nand_is ∙ (honest_is ∙ h)) (well h)).1 in
        let from : RanFrom view (view.flash checked) share a.claim xs e = ran_accepted view
        (view.flash checked) share a d e xs (ap view.flash nand_is) begun (accepted h) (free (honest_is ∙ h) (accepted h)) (accounts (honest_is ∙ h) (accepted h))
        ran in
        let each = ran_each view (view.flash checked) share a d e xs (ap view.flash nand_is) begun (accepted h) (free (honest_is ∙ h) (accepted h)) (accounts (honest_is ∙ h) (accepted h)) ran in
        let first : RunsLegally view share d e (view.flash checked).geometry a.claim (view.flash checked) (view.flash e.engine.nand) e.read_only (is_some e.engine.pinned) xs = record { run = from.run; legal = from.legal; each = each } in
        let then : RunsLegally view share d e (view.flash nand).geometry a.claim (view.flash nand) (view.flash e.engine.nand) e.read_only (is_some e.engine.pinned) xs =
        subst (λ (f : Flash). RunsLegally view share d e f.geometry a.claim f (view.flash e.engine.nand) e.read_only (is_some e.engine.pinned) xs) (same h) first in
        let there : RunsLegally view share d e g a.claim (view.flash nand) (view.flash e.engine.nand) e.read_only (is_some e.engine.pinned) xs =
        subst (λ k. RunsLegally view share d e k a.claim (view.flash nand) (view.flash e.engine.nand) e.read_only (is_some e.engine.pinned) xs) sized then in
        subst (λ k. RunsLegally view share d e g k (view.flash nand) (view.flash e.engine.nand) e.read_only (is_some e.engine.pinned) xs) claim_is there

    holds_to : HoldsTo view nand g share capacity c d xs e
    holds_to h =
        let its = runs h in
        record {
          headline = record { agrees = (acceptance h).agrees; one = one_array h; ro = e.read_only; pinned = is_some e.engine.pinned; run = its.run; legal = its.legal };
          each = its.each;
          ro_is = refl;
          pinned_is = refl;
        }

    -- the call that came then, and that the bus failed in
    has_failed : (x : Exchange) (f : Device N) → AreKnown xs → x.result ≡ Err BusFault → Tells view e x f → HasBusFailed view e x f
    has_failed x f known bus tells = record { tells = tells; rose = fault_rose view e f x tells (runs_to.0.going (ap (λ (r : Ram). stop_of r.fault) begun) known) bus }

  -- the device as it was started
  pub is_begun : IsBegunFromClaim view nand g share c d
  is_begun = record {
    device = device;
    stale = a.stale;
    begun = begun ∙ (ap (λ k. begun_ram k share a.claim a.stale) (sized' ∙ sized) ∙ ap (λ k. begun_ram g share k a.stale) claim_is);
    stale_is = λ h. (acceptance h).stale_is;
    same = λ h. ap view.flash nand_is ∙ same h;
    told = λ h. ap view.recorded nand_is ∙ told h;
    honest_is = ap view.honest nand_is ∙ honest_is;
    failed_is = subst (λ n. view.failed nand ≤ view.failed n) (sym nand_is) failed_is;
  }

  module _ (e : Device N) (given_is : given ≡ e.engine.nand) where
    abbrev Rose : List Exchange → N → Type 0
    Rose xs n = AreKnown xs ⊎ HasRisen (view.failed nand) (view.failed n)

    rose_by : (xs : List Exchange) → AreKnown xs ⊎ HasRisen (view.failed d.engine.nand) (view.failed e.engine.nand) → Rose xs given
    rose_by xs (inl known) = inl known
    rose_by xs (inr risen) =
        let from : HasRisen (view.failed checked) (view.failed e.engine.nand) = subst (λ n. HasRisen (view.failed n) (view.failed e.engine.nand)) nand_is risen in
        inr (subst (λ n. HasRisen (view.failed nand) (view.failed n)) (sym given_is) (risen_over (view.failed nand) (view.failed checked) (view.failed e.engine.nand) failed_is from))

    holds_until : (xs : List Exchange) → Until (RunsTo view d) (Tells view) xs e → Until (HoldsTo view nand g share capacity c d) (HasBusFailed view) xs e
    holds_until xs until =
        until_so (λ f. f) (RunsTo view d) (HoldsTo view nand g share capacity c d)
        (Tells view) (HasBusFailed view) xs e holds_to
        (λ before mid x known runs_to bus tells. has_failed before mid runs_to x e known bus tells) until

    pub is_served : (u v b w : Option (List ℕ)) (result : Result Served ServeFault) → view.calm e.engine.nand ≡ view.calm d.engine.nand
        → Session view d e u v b w result
        → IsServed view nand g share capacity c u v b w result given
    is_served u v b w result still session =
        let calls = session.told.calls in
        record {
          requests = session.requests;
          exchanges = session.exchanges;
          commands = session.commands;
          stream = subst (λ (k : Geometry). ServesRequests k.data_bytes u v b w session.requests (replies_in session.exchanges) result) geometry_is session.stream;
          stays = calls.stays;
          back = record {
            honest_is = ap view.honest given_is ∙ (calls.honest_is ∙ (ap view.honest nand_is ∙ honest_is));
            calm_is = ap view.calm given_is ∙ (still ∙ (ap view.calm nand_is ∙ calm_is));
            sized = ap (λ n. (view.flash n).geometry) given_is ∙ (calls.device.engine.geometry ∙ (calls.sized ∙ geometry_is));
            failed_is = omega (arith, failed_is, ap view.failed nand_is, calls.failed_is, ap view.failed given_is);
          };
          first = d;
          last = e;
          begun = is_begun;
          each = calls.each;
          given_is = given_is;
          rose = rose_by session.exchanges (calls.rose (ap (λ (r : Ram). stop_of r.fault) begun));
          headline = holds_until session.exchanges session.told.until;
        }

-- From what serving a die in memory came to, to what became of its image, and to what the command came to.
use Rattle.std.proofs.Common.{◌≡◌, ◌⊎◌, inl, inr, ℕ, ◌≤◌, Bool, true, List, Option, Result, Ok, Err, refl, sym, ap, subst, ◌∙◌, arith}
use Rattle.std.specs.Io.KnownBytes.{Keeps}
use Rattle.page_layout.specs.declared.geometry.Geometry.{Geometry}
use Rattle.page_layout.specs.Counter.{HasRisen}
use Rattle.page_layout.specs.Flash.{Flash, Leads}
use Rattle.page_layout.specs.Page.{Image}
use Rattle.page_layout.specs.Raw.{raw_image, raw_bytes}
use Rattle.certificate.specs.Claim.{Claim}
use Rattle.promises.specs.Legal.{IsLegal}
use Rattle.promises.specs.Run.{DeviceView, Event, Run, log_of}
use Rattle.promises.proofs.RunLemmas.{one_log}
use Rattle.mount.specs.Log.{failures}
use Rattle.request_stream.specs.declared.reply.ServeFault.{ServeFault}
use Rattle.ftl_device.specs.Begin.{is_bad_in}
use Rattle.command_queue.specs.Run.{accepted_device}
use Rattle.command_queue.specs.Exchanges.{Exchange, AreKnown}
use Rattle.block_server.specs.declared.server.Served.{Served}
use Rattle.command_queue.proofs.ToldLemmas.{until_known}
use Rattle.block_server.specs.Checked.{HoldsTo, HasBusFailed, IsServed}
use Rattle.commands.specs.declared.text.ServeStop.{ServeStop}
use Rattle.nand_die.specs.Made.{loaded_flash}
use Rattle.image_check.specs.Agrees.{Agrees}
use Rattle.image_check.specs.Refused.{IsFirstWrong, IsRefusal}
use Rattle.image_check.specs.declared.refusal.Refusal.{Refusal}
use Rattle.image_check.specs.declared.refusal.Refusal.TheVariants as refusals
use Rattle.command_words.specs.declared.words.ServeWords.{ServeWords}
use Rattle.commands.specs.declared.text.CommandFault.{CommandFault}
use Rattle.commands.specs.declared.text.CommandFault.TheVariants as fault
use Rattle.commands.specs.Check.{HasImageLength}
use Rattle.commands.specs.Files.{LoadAnswers, Left, LeavesUntouched}
use Rattle.commands.specs.Serve.{Driver, flash_behind, failures_of, bad_in, stop_in, DoesServe, EndsServing, HasClaim, HasGivenBack, HasServedImage, HasServedDie, IsUnserved, IsUnservedDie, IsServeUnstarted, ServesDie, IsDieUnmade, driver_view}
use Rattle.commands.specs.Steady.{has_spared}
use Rattle.commands.proofs.BadLemmas.{named_bad}
use Rattle.commands.proofs.PassedLemmas.{none_failed}
use Rattle.commands.proofs.FormatLemmas.{not_risen}

-- a count that stays at none did not rise
all_known : (xs : List Exchange) (was now most : ℕ) → AreKnown xs ⊎ HasRisen was now → now ≤ most → most ≡ 0 → AreKnown xs
all_known xs was now most (inl known) le none = known
all_known xs was now most (inr risen) le none = absurd (not_risen was now most risen le none)

-- no operation of a run failed, of a die that was loaded with the certificate's bad blocks and has failed none
passed_in : (g : Geometry) (before : List ℕ) (c : Claim) (s t : Flash) (ro pinned : Bool) (events : List Event) (first : DeviceView) → first.flash ≡ s → Run first events (record { flash = t; ro = ro; pinned = pinned })
    → IsLegal g s.image (is_bad_in c) (log_of events) → s ≡ loaded_flash g before (bad_in g c) → has_spared t ≡ true → failures (log_of events) ≡ 0
passed_in g before c s t ro pinned events first begins run legal loaded spared =
    let leads : Leads first.flash (log_of events) t = one_log first (record { flash = t; ro = ro; pinned = pinned }) events run in
    none_failed g before (bad_in g c) (is_bad_in c) t (log_of events) (named_bad g c) spared
    (subst (λ (f : Flash). IsLegal g f.image (is_bad_in c) (log_of events)) loaded legal) (subst (λ (f : Flash). Leads f (log_of events) t) (begins ∙ loaded) leads)

pub die_served : (nand given : Driver) (g : Geometry) (capacity : ℕ) (c : Claim) (u v b w : Option (List ℕ)) (result : Result Served ServeFault) (how : Option ServeStop) (after : List ℕ)
    → IsServed driver_view nand g 0 capacity c u v b w result given → how ≡ stop_in result → HasGivenBack given after → HasServedDie g capacity c (flash_behind nand) after u v b w how
die_served nand given g capacity c u v b w result how after s how_is back =
    let known : AreKnown s.exchanges = all_known s.exchanges (failures_of nand) (failures_of given) (failures_of given) s.rose (omega arith) back.none in
    let there : flash_behind given ≡ flash_behind s.last.engine.nand = ap flash_behind s.given_is in
    let holds = until_known (HoldsTo driver_view nand g 0 capacity c s.first) (HasBusFailed driver_view) s.exchanges s.last s.headline known refl in
    let passed : (before : List ℕ) → flash_behind nand ≡ loaded_flash g before (bad_in g c) → failures (log_of holds.headline.run.events) ≡ 0 = λ before loaded.
    passed_in g before c (flash_behind nand) (flash_behind s.last.engine.nand) holds.headline.ro holds.headline.pinned holds.headline.run.events (accepted_device (flash_behind nand) c) refl holds.headline.run.run holds.headline.legal loaded
    (subst (λ (f : Flash). has_spared f ≡ true) there back.spared) in
    record {
      came = result;
      how_is = how_is;
      serves = record {
        requests = s.requests;
        exchanges = s.exchanges;
        commands = s.commands;
        stream = s.stream;
        first = s.first;
        last = s.last;
        nand = nand;
        held = refl;
        begun = s.begun;
        holds = holds;
        passed = passed;
        pages = ap (λ k. raw_image k after) (sym s.back.sized) ∙ (back.pages ∙ ap (λ (f : Flash). f.image) there);
        bytes = back.bytes ∙ ap (λ (f : Flash). raw_bytes f.image) there;
      };
    }

-- a die that counted no fault was refused for memory, or for the first part that fails
pub read_through : (g : Geometry) (capacity : ℕ) (image : Image) (c : Claim) (r : Refusal) (was now : ℕ) → IsRefusal g capacity image c r → (r ≡ refusals.Source → HasRisen was now) → now ≡ 0
    → (r ≡ refusals.OutOfMemory) ⊎ IsFirstWrong g capacity image c r
read_through g capacity image c r was now (inl (inl source)) rose none = absurd (not_risen was now now (rose source) (omega arith) none)
read_through g capacity image c r was now (inl (inr memory)) rose none = inl memory
read_through g capacity image c r was now (inr wrong) rose none = inr wrong

-- ---- the command

-- a step before the run ended it
pub stops : (gives : LoadAnswers) (words : ServeWords) (unread left : Option (List ℕ)) (before after : Left) (result : Result (Unit {0}) CommandFault) (stop : CommandFault)
    → result ≡ Err stop → LeavesUntouched before after → Keeps unread left → IsServeUnstarted gives words stop → DoesServe gives words unread left before after result
stops gives words unread left before after result stop is leaves keeps because =
    let P : Result (Unit {0}) CommandFault → Type 0 = λ r. DoesServe gives words unread left before after r in
    subst P (sym is) (inl (record { leaves = leaves; unread_is = keeps; because = because }))

-- an image of which no die was made
pub undied : (g : Geometry) (capacity : ℕ) (bytes : List ℕ) (c : Claim) (stop : CommandFault) → IsDieUnmade g bytes stop → IsUnserved g capacity bytes c stop
undied g capacity bytes c fault.WrongLength unmade = unmade
undied g capacity bytes c (fault.Die broken) unmade = unmade
undied g capacity bytes c _ unmade = absurd unmade

-- a die of a whole image that was not served
pub unserved : (g : Geometry) (capacity : ℕ) (bytes : List ℕ) (c : Claim) (s : Flash) (stop : CommandFault) → HasImageLength g bytes → s ≡ loaded_flash g bytes (bad_in g c)
    → IsUnservedDie g capacity c s stop → IsUnserved g capacity bytes c stop
unserved g capacity bytes c s (fault.Check refusal) whole same (inl memory) = (whole, inl memory)
unserved g capacity bytes c s (fault.Check refusal) whole same (inr wrong) = (whole, inr (subst (λ (f : Flash). IsFirstWrong g capacity f.image c refusal) same wrong))
unserved g capacity bytes c s fault.Start whole same agrees = (whole, subst (λ (f : Flash). Agrees g capacity f.image c) same agrees)
unserved g capacity bytes c s _ whole same h = absurd h

-- so what is claimed of it was not served
pub not_served : {gives : LoadAnswers} {words : ServeWords} {g : Geometry} {capacity : ℕ} {bytes : List ℕ} {c : Claim} (stop : CommandFault) → HasClaim gives words g capacity bytes c
    → IsUnserved g capacity bytes c stop → IsServeUnstarted gives words stop
not_served {gives} {words} {g} {capacity} {bytes} {c} stop has why = inr (record { geometry = g; capacity = capacity; bytes = bytes; claim = c; has = has; unserved = why })

-- one that was, and then the image was stored, or not
pub served_does : (gives : LoadAnswers) (words : ServeWords) (unread left : Option (List ℕ)) (before after : Left) (result : Result (Unit {0}) CommandFault)
    (g : Geometry) (capacity : ℕ) (bytes image : List ℕ) (c : Claim) (s : Flash) (how : Option ServeStop)
    → HasClaim gives words g capacity bytes c → s ≡ loaded_flash g bytes (bad_in g c) → HasServedDie g capacity c s image unread left before.out after.out how
    → EndsServing words.output.now image how before.stores after.stores result → DoesServe gives words unread left before after result
served_does gives words unread left before after result g capacity bytes image c s how has same served ends = does result (record {
  geometry = g;
  capacity = capacity;
  bytes = bytes;
  claim = c;
  has = has;
  image = image;
  came = served.came;
  serves = subst (λ (f : Flash). ServesDie g capacity c f image unread left before.out after.out served.came) same served.serves;
  ends = subst (λ (h : Option ServeStop). EndsServing words.output.now image h before.stores after.stores result) served.how_is ends;
})
  where
    does : (r : Result (Unit {0}) CommandFault) → HasServedImage gives words unread left before after r → DoesServe gives words unread left before after r
    does (Ok done) ran = ran
    does (Err stop) ran = inr ran

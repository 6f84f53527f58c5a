-- Pages of version 1 are brought forward.
use Rattle.std.proofs.Common.{◌≡◌, inl, inr, ℕ, Bool, true, false, Some, Result, Ok, Err, ap, sym, ◌∙◌, subst, arith}
use Rattle.std.proofs.lemmas.Bool.{cases_Bool}
use Rattle.page_layout.specs.View.{View}
use Rattle.page_layout.specs.declared.geometry.Geometry.{Geometry}
use Rattle.page_layout.specs.declared.record.Key.{Key}
use Rattle.page_layout.specs.Page.{Image}
use Rattle.page_layout.specs.Sound.{version_for}
use Rattle.page_layout.specs.Newest.{newest}
use Rattle.page_layout.specs.Array.{marks, HasOneArray}
use Rattle.page_layout.specs.Version.{is_old, HasOldAt}
use Rattle.page_layout.proofs.VersionLemmas.{old_at, old_from, fewer_old}
use Rattle.collection.specs.State.{Ram}
use Rattle.collection.specs.Collect.{IsRearranged}
use Rattle.std.specs.Option.{ForSome}
use Rattle.collection.specs.Results.{IsSame}
use Rattle.collection.specs.Renew.{HasNoneDue, HasDue, IsRenewedAt}
use Rattle.std.specs.Prelude.{IfErr, OnOk, MatchResult}
use Rattle.bad_blocks.specs.Table.{good_count}
use Rattle.allocation.specs.State.{State}
use Rattle.mapping_cache.specs.Mapping.{HasLimitsOf}
use Rattle.collection.specs.declared.engine.Engine.{Engine}
use Rattle.collection.specs.declared.fault.EngineFault.{EngineFault}
use Rattle.collection.specs.declared.fault.EngineFault.TheVariants.{ReadOnly, SequenceSpent, Damaged, Bus}
use Rattle.collection.specs.Safe.{ram, image_in}
use Rattle.collection.specs.Looks.{IsReadFault}
use Rattle.collection.proofs.Costs.{risen_over}
use Rattle.collection.proofs.Logs.{went_then}
use Rattle.ftl_device.specs.declared.fault.CallFault.{CallFault}
use Rattle.ftl_device.specs.declared.fault.CallFault.TheVariants as call
use Rattle.ftl_device.specs.Calls.{Knows, TellsByMemory, CallTells, KeepsArray, CallRefused}
use Rattle.ftl_device.specs.Shortage.{CallShort}
use Rattle.ftl_device.specs.Changes.{EngineLeaves, EndsCall, EndsKept}
use Rattle.ftl_device.proofs.DieLemmas.{die_then}
use Rattle.ftl_device.proofs.FlushLoops.{keeps_same, limits_then}
use Rattle.ftl_device.proofs.LeaveLemmas.{leaves_refused, kept_stuck}
use Rattle.ftl_device.proofs.StoppedLemmas.{KeepsOn, cuts_on, stops_on}
use Rattle.ftl_device.specs.Migrate.{Renews, Migrates}
use Rattle.ftl_device.proofs.RenewedLemmas.{key_within}

-- whatever was answered
pub renewed_same : (row : ℕ) (a b : Ram) (x y : Image) (found : Bool) → IsRenewedAt row a x b y found → IsSame a x b y
renewed_same row a b x y true k = k.same
renewed_same row a b x y false k = k.1

renewed_none : (row : ℕ) (a b : Ram) (x y : Image) (found : Bool) → version_for a.geometry ≡ 2 → IsRenewedAt row a x b y found → HasNoneDue row y
renewed_none row a b x y true two k = k.none two
renewed_none row a b x y false two k = subst (HasNoneDue row) (sym k.2) k.0

pub renews_by : (a b c : Ram) (x y z : Image) (row : ℕ) (found : Bool) → b.geometry ≡ a.geometry → IsRearranged a x b y → IsRenewedAt row b y c z found → Renews row a.geometry x z
renews_by a b c x y z row found same room one = record {
  adds = λ two key q at. room.versions two key q ((renewed_same row b c y z found one).leaves.versions (ap version_for same ∙ two) key q at);
  none = λ two. renewed_none row b c y z found (ap version_for same ∙ two) one;
}

-- what is so of the row that was found
pub ok_some : (P : ℕ → Type 0) (result : Result (Unit {0}) CallFault) (row : ℕ) → OnOk result (P row) → OnOk result (ForSome (Some row) P)
ok_some P (Ok done) row h = λ found is. (let same : row ≡ found = cc in subst P same h)
ok_some P (Err fault) row h = tt

-- ---- none is left, or fewer

pub none_old : (g : Geometry) (before after : Image) → ((row : ℕ) → HasNoneDue row after) → Migrates false g before after
none_old g before after none key no_table = elim (cases_Bool (is_old after key)) [
  | inl old ↦ absurd (let at = old_at after key old in none at.0 key no_table at.1)
  | inr not ↦ not
]

one_row : (image : Image) (key : Key) (a b : ℕ) → newest (marks image) key ≡ Some a → newest (marks image) key ≡ Some b → a ≡ b
one_row image key a b x y = (let e : Some a ≡ Some b = sym x ∙ y in cc)

pub one_fewer : (g : Geometry) (before after : Image) (row : ℕ) → HasOneArray g before → HasDue row before → Renews row g before after → Migrates true g before after
one_fewer g before after row one due renews two =
    let key : Key = due.key in
    let was : is_old before key ≡ true = old_from before key (row, due.old) in
    let is : is_old after key ≡ false = elim (cases_Bool (is_old after key)) [
      | inl old ↦ absurd (
          let at = old_at after key old in
          let same : at.0 ≡ row = one_row before key at.0 row (renews.adds two key at.0 at.1).newest_is due.old.newest_is in
          renews.none two key due.no_table (subst (HasOldAt after key) same at.1))
      | inr not ↦ not
    ] in
    fewer_old g before after key two renews.adds (key_within g before key row one due.old.newest_is) was is

pub ok_fewer : (result : Result (Unit {0}) CallFault) (g : Geometry) (before after : Image) (row : ℕ) → HasOneArray g before → HasDue row before → OnOk result (Renews row g before after) → OnOk result (Migrates true g before after)
ok_fewer (Ok done) g before after row one due renews = one_fewer g before after row one due renews
ok_fewer (Err fault) g before after row one due renews = tt

-- ---- a look before the call, that leaves memory as it is

-- it was done
pub still_ok : (a b : Ram) → b ≡ record a { fault = b.fault } → b.fault ≡ a.fault → b ≡ a
still_ok a b still same = still ∙ ap (λ f. record a { fault = f }) same

-- what is so of the memory and the image after a look is so of those before it
pub over : (P : Ram → Image → Type 0) (a b : Ram) (x y : Image) → b ≡ a → y ≡ x → P b y → P a x
over P a b x y same still h = subst (P a) still (subst (λ r. P r y) same h)

pub look_tells : {A : Type 0} (result : Result A EngineFault) (a b : Ram) → b.blocks ≡ a.blocks → IfErr result IsReadFault → TellsByMemory a b result
look_tells (Ok x) a b same faults = (let e : good_count b.blocks.table ≡ good_count a.blocks.table = ap (λ (t : State). good_count t.table) same in omega arith)
look_tells (Err ReadOnly) a b same faults = absurd faults
look_tells (Err SequenceSpent) a b same faults = absurd faults
look_tells (Err Damaged) a b same faults = tt
look_tells (Err Bus) a b same faults = tt

pub look_short : (fault : EngineFault) (a b : Ram) → IsReadFault fault → CallShort a b (Err (call.Engine fault))
look_short ReadOnly a b h = absurd h
look_short SequenceSpent a b h = absurd h
look_short Damaged a b h = tt
look_short Bus a b h = tt

look_refused : (fault : EngineFault) (g : Geometry) (x y : Image) (r : Ram) → fault ≡ Bus → CallRefused g x r y (call.Engine fault)
look_refused fault g x y r is = subst (λ f. CallRefused g x r y (call.Engine f)) (sym is) tt

call_tells_then : (a b c : Ram) (result : Result (Unit {0}) CallFault) → b.blocks ≡ a.blocks → CallTells b c result → CallTells a c result
call_tells_then a b c (Ok done) same h = (let e : good_count b.blocks.table ≡ good_count a.blocks.table = ap (λ (t : State). good_count t.table) same in omega (arith, h))
call_tells_then a b c (Err (call.Engine ReadOnly)) same h = (let e : good_count b.blocks.table ≡ good_count a.blocks.table = ap (λ (t : State). good_count t.table) same in (h.0, omega (arith, h.1)))
call_tells_then a b c (Err (call.Engine SequenceSpent)) same h = h
call_tells_then a b c (Err (call.Engine Damaged)) same h = tt
call_tells_then a b c (Err (call.Engine Bus)) same h = tt
call_tells_then a b c (Err call.OutOfMemory) same h = h

module _ {N : Type 0} (view : View N) where
  -- a call that was done after a look keeps what is known
  pub keeps_look : (old mid : Engine N) → ram mid ≡ ram old → (view.honest old.nand ≡ true → view.flash mid.nand ≡ view.flash old.nand) → KeepsOn view old mid
  keeps_look old mid same still = λ is_honest k. over (λ r i. KeepsArray old.geometry (image_in view.flash old) r i) (ram mid) (ram old) (image_in view.flash mid) (image_in view.flash old) (sym same) (ap (λ f. f.image) (sym (still is_honest))) (keeps_same (ram old) (image_in view.flash old) k)

  limits_look : (old mid : Engine N) → ram mid ≡ ram old → HasLimitsOf old.mapping mid.mapping
  limits_look old mid same = record { geometry = ap (λ (r : Ram). r.mapping.geometry) same; capacity = ap (λ (r : Ram). r.mapping.capacity) same; share = ap (λ (r : Ram). r.mapping.share) same }

  -- the rest of the call after it
  ends_after : {A : Type 0} (old mid new : Engine N) (x : A) (result : Result (Unit {0}) CallFault) → ram mid ≡ ram old
      → (view.honest old.nand ≡ true → view.flash mid.nand ≡ view.flash old.nand) → EngineLeaves view old (Ok x) mid
      → EndsCall view mid result new → EndsCall view old result new
  ends_after old mid new x result same still first next = record {
    safe = next.safe;
    fault = next.fault;
    geometry = next.geometry ∙ first.geometry;
    die = die_then view old.nand mid.nand new.nand first.die next.die;
    rose = λ bus. risen_over (view.failed old.nand) (view.failed mid.nand) (view.failed new.nand) first.die.failed_is (next.rose bus);
    limits = limits_then _ _ _ (limits_look old mid same) next.limits;
    calm_memory = next.calm_memory;
    tells = call_tells_then (ram old) (ram mid) (ram new) result (ap (λ (r : Ram). r.blocks) same) next.tells;
    went = λ is_honest ne. went_then (ram old) (ram mid) (ram new) _ _ _ _ _ _ first.geometry (first.went is_honest (λ bus. (let no : ⊥ = cc in no))) (next.went (first.die.honest_is ∙ is_honest) ne);
    stops = λ is_honest k ne.
        let kept = keeps_look old mid same still is_honest k in
        stops_on view old mid new first.geometry (limits_look old mid same) kept.array (first.stops is_honest k (λ bus. (let no : ⊥ = cc in no))) (next.stops (first.die.honest_is ∙ is_honest) kept.truth ne);
  }

  -- and what it keeps
  pub kept_after : {A : Type 0} (old mid new : Engine N) (x : A) (result : Result (Unit {0}) CallFault) → ram mid ≡ ram old
      → (view.honest old.nand ≡ true → view.flash mid.nand ≡ view.flash old.nand) → EngineLeaves view old (Ok x) mid
      → EndsKept view mid result new → EndsKept view old result new
  kept_after old mid new x result same still first next = record {
    ends = ends_after old mid new x result same still first next.ends;
    cut = λ is_honest k bus.
        let kept = keeps_look old mid same still is_honest k in
        cuts_on view old mid new first.geometry (limits_look old mid same) kept.array (first.stops is_honest k (λ none. (let no : ⊥ = cc in no))) (next.cut (first.die.honest_is ∙ is_honest) kept.truth bus);
    truth = λ is_honest. over (λ r i. Knows r i → MatchResult result (λ done. KeepsArray r.geometry i (ram new) (image_in view.flash new)) (CallRefused r.geometry i (ram new) (image_in view.flash new)))
        (ram old) (ram mid) (image_in view.flash old) (image_in view.flash mid) same (ap (λ f. f.image) (still is_honest)) (next.truth (first.die.honest_is ∙ is_honest));
  }

  -- a look that was refused
  pub look_stuck : {A : Type 0} (old new : Engine N) (fault : EngineFault) → EngineLeaves {A = A} view old (Err fault) new → HasLimitsOf old.mapping new.mapping
      → (view.honest old.nand ≡ true → Knows (ram old) (image_in view.flash old) → fault ≡ Bus) → EndsKept view old (Err (call.Engine fault)) new
  look_stuck {A} old new fault leaves limits truth = kept_stuck view old new fault (leaves_refused view A (Unit {0}) old new fault leaves) limits
      (λ is_honest k. look_refused fault old.geometry (image_in view.flash old) (image_in view.flash new) (ram new) (truth is_honest k))

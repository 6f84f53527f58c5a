-- What a call that is done programs, which sectors it leaves cached, and what the first checks answer.
use Rattle.std.proofs.Common.{◌≡◌, ℕ, ◌+◌, ◌-◌, ◌<◌, ◌≤◌, ◌∙◌, true, false, Bool, eqb, List, [], ◌∷◌, take, Option, Some, None, IsSome, Result, Ok}
use Rattle.std.proofs.Common.{Err, OnOk, refl, sym, ap, subst, arith}
use Rattle.std.specs.Option.{option_map, option_map_or}
use Rattle.std.specs.Map.{keys_of, lookup_entry, remove_entry}
use Rattle.std.proofs.lemmas.Bool.{cond-true, cond-false}
use Rattle.std.proofs.lemmas.List.{take-map}
use Rattle.page_layout.specs.Geometry.{need_at}
use Rattle.bad_blocks.specs.Table.{good_count}
use Rattle.budget.specs.declared.stream.Stream.{Stream}
use Rattle.budget.specs.declared.stream.Stream.TheVariants.{Data, Meta}
use Rattle.budget.specs.Put.{StreamPut}
use Rattle.allocation.specs.State.{State}
use Rattle.allocation.specs.Counts.{counts_of}
use Rattle.mapping_cache.specs.declared.slot.Slot.{Slot}
use Rattle.mapping_cache.specs.Mapping.{MappingState, CanLoad, slot_of, used, loaded, loaded_by}
use Rattle.mapping_cache.proofs.Entries.{by_test}
use Rattle.collection.specs.declared.engine.Engine.{Engine}
use Rattle.collection.specs.declared.fault.EngineFault.{EngineFault}
use Rattle.collection.specs.declared.fault.EngineFault.TheVariants as engine_fault
use Rattle.collection.specs.State.{Ram}
use Rattle.collection.specs.Safe.{ram}
use Rattle.collection.specs.Cost.{HasPut, PageCosts, WriteBackCosts}
use Rattle.ftl_device.specs.declared.fault.CallFault.{CallFault}
use Rattle.ftl_device.specs.declared.fault.CallFault.TheVariants as call
use Rattle.ftl_device.specs.declared.fault.DeviceFault.{DeviceFault}
use Rattle.ftl_device.specs.declared.fault.DeviceFault.TheVariants.{OutOfRange, ReadOnly, SequenceSpent, OutOfMemory, Damaged, BusFault}
use Rattle.ftl_device.specs.Calls.{stop_of, CallTells, MayNot, IsBeyond, answer_of, HasMadeRoom, HasMadePlace, HasMadeRoomAndPlace, HasPutSector, HasCost, order_after}
use Rattle.ftl_device.proofs.ReadyLemmas.{same_slots}
use Rattle.ftl_device.proofs.CallLemmas.{done_too}

-- ---- the order of the cached sectors

abbrev key_in : ℕ × Slot → ℕ
key_in e = e.0

-- lists with the same keys
module _ (test : ℕ → Bool) where
  first_keys : (xs ys : List (ℕ × Slot)) → keys_of ys ≡ keys_of xs → option_map key_in (lookup_entry test ys) ≡ option_map key_in (lookup_entry test xs)
  first_keys [] [] h = refl
  first_keys [] (y ∷ ys) h = (let no : ⊥ = cc in absurd no)
  first_keys (x ∷ xs) [] h = (let no : ⊥ = cc in absurd no)
  first_keys (x ∷ xs) (y ∷ ys) h =
      let same : y.0 ≡ x.0 = cc in
      let rest : keys_of ys ≡ keys_of xs = cc in
      by_test (test x.0)
      (λ t. ap (option_map key_in) (cond-true _ (Some y) (lookup_entry test ys) (ap test same ∙ t)) ∙ (ap Some same ∙ sym (ap (option_map key_in) (cond-true _ (Some x) (lookup_entry test xs) t))))
      (λ f. ap (option_map key_in) (cond-false _ (Some y) (lookup_entry test ys) (ap test same ∙ f)) ∙ (first_keys xs ys rest ∙ sym (ap (option_map key_in) (cond-false _ (Some x) (lookup_entry test xs) f))))

  other_keys : (xs ys : List (ℕ × Slot)) → keys_of ys ≡ keys_of xs → keys_of (remove_entry test ys) ≡ keys_of (remove_entry test xs)
  other_keys [] [] h = refl
  other_keys [] (y ∷ ys) h = (let no : ⊥ = cc in absurd no)
  other_keys (x ∷ xs) [] h = (let no : ⊥ = cc in absurd no)
  other_keys (x ∷ xs) (y ∷ ys) h =
      let same : y.0 ≡ x.0 = cc in
      let rest : keys_of ys ≡ keys_of xs = cc in
      by_test (test x.0)
      (λ t. ap keys_of (cond-true _ ys (y ∷ remove_entry test ys) (ap test same ∙ t)) ∙ (rest ∙ sym (ap keys_of (cond-true _ xs (x ∷ remove_entry test xs) t))))
      (λ f.
      let tails : keys_of (remove_entry test ys) ≡ keys_of (remove_entry test xs) = other_keys xs ys rest in
      let both : y.0 ∷ keys_of (remove_entry test ys) ≡ x.0 ∷ keys_of (remove_entry test xs) = cc in
      ap keys_of (cond-false _ ys (y ∷ remove_entry test ys) (ap test same ∙ f)) ∙ (both ∙ sym (ap keys_of (cond-false _ xs (x ∷ remove_entry test xs) f))))

used_keys : (n : ℕ) (old new : MappingState) → keys_of new.cached ≡ keys_of old.cached → keys_of (used new n).cached ≡ keys_of (used old n).cached
used_keys n old new h = at (lookup_entry (eqb n) old.cached) (lookup_entry (eqb n) new.cached) (first_keys (eqb n) old.cached new.cached h)
  where
    at : (a b : Option (ℕ × Slot)) → option_map key_in b ≡ option_map key_in a → keys_of (option_map_or (λ e. e ∷ remove_entry (eqb n) new.cached) b new.cached) ≡ keys_of (option_map_or (λ e. e ∷ remove_entry (eqb n) old.cached) a old.cached)
    at None None same = h
    at None (Some y) same = (let no : ⊥ = cc in absurd no)
    at (Some x) None same = (let no : ⊥ = cc in absurd no)
    at (Some x) (Some y) same =
        let tails : keys_of (remove_entry (eqb n) new.cached) ≡ keys_of (remove_entry (eqb n) old.cached) = other_keys (eqb n) old.cached new.cached h in
        let both : y.0 ∷ keys_of (remove_entry (eqb n) new.cached) ≡ x.0 ∷ keys_of (remove_entry (eqb n) old.cached) = cc in both

-- the row with which a sector is cached doesn't count, nor do the slots of the others
pub order_loaded : (n : ℕ) (row : Option ℕ) (old new : MappingState) → keys_of new.cached ≡ keys_of old.cached → new.capacity ≡ old.capacity → keys_of (loaded new n row).cached ≡ order_after old n
order_loaded n row old new keys size = at (slot_of old n) (slot_of new n) refl refl
  where
    front : take (new.capacity - 1) (keys_of new.cached) ≡ take (old.capacity - 1) (keys_of old.cached)
    front = ap (λ c. take (c - 1) (keys_of new.cached)) size ∙ ap (take (old.capacity - 1)) keys

    at : (a b : Option Slot) → slot_of old n ≡ a → slot_of new n ≡ b → keys_of (loaded_by b new n row).cached ≡ keys_of (loaded_by a old n None).cached
    at None None was is = ap (λ ks. n ∷ ks) (sym (take-map key_in (new.capacity - 1) new.cached) ∙ (front ∙ take-map key_in (old.capacity - 1) old.cached))
    at None (Some s) was is = (let some : IsSome (slot_of old n) = same_slots n new old (sym keys) (subst IsSome (sym is) refl) in let no : false ≡ true = subst IsSome was some in let never : ⊥ = cc in absurd never)
    at (Some s) None was is = (let some : IsSome (slot_of new n) = same_slots n old new keys (subst IsSome (sym was) refl) in let no : false ≡ true = subst IsSome is some in let never : ⊥ = cc in absurd never)
    at (Some s) (Some t) was is = used_keys n old new keys

pub order_ready : (n : ℕ) (row : Option ℕ) (old mid new : MappingState) → keys_of mid.cached ≡ keys_of old.cached → mid.capacity ≡ old.capacity → new ≡ loaded mid n row → keys_of new.cached ≡ order_after old n
order_ready n row old mid new keys size is = ap (λ (m : MappingState). keys_of m.cached) is ∙ order_loaded n row old mid keys size

-- ---- what was programmed

-- a put is told by the blocks and the next sequence
module _ (stream : Stream) (a b c : Ram) where
  put_to : c.blocks ≡ b.blocks → c.next ≡ b.next → HasPut stream a b → HasPut stream a c
  put_to blocks next p = record {
    failures = p.failures;
    put = subst (λ (s : State). StreamPut stream a.geometry.pages p.failures (counts_of a.blocks) (counts_of s)) (sym blocks) p.put;
    next = next ∙ p.next;
  }

  put_from : b.geometry ≡ a.geometry → b.blocks ≡ a.blocks → b.next ≡ a.next → HasPut stream b c → HasPut stream a c
  put_from geometry blocks next p =
      let pages : b.geometry.pages ≡ a.geometry.pages = ap (λ g. g.pages) geometry in
      let put : StreamPut stream a.geometry.pages p.failures (counts_of b.blocks) (counts_of c.blocks) = subst (λ n. StreamPut stream n p.failures (counts_of b.blocks) (counts_of c.blocks)) pages p.put in
      record {
        failures = p.failures;
        put = subst (λ (s : State). StreamPut stream a.geometry.pages p.failures (counts_of s) (counts_of c.blocks)) blocks put;
        next = p.next ∙ ap (λ n. n + p.failures + 1) next;
      }

-- where no dirty entry has to leave, nothing is done
pub place_there : (n : ℕ) (r : Ram) → CanLoad r.mapping n → HasMadePlace n r r
place_there n r can = record { geometry = refl; free = λ _. (refl, refl); taken = λ no. absurd (no can) }

-- else the translation page of one is written back
pub place_taken : (result : Result (Unit {0}) EngineFault) (n : ℕ) (old new : Ram) → (CanLoad old.mapping n → ⊥) → new.geometry ≡ old.geometry → WriteBackCosts old new result → OnOk result (HasMadePlace n old new)
place_taken (Ok done) n old new full geometry cost = record { geometry = geometry; free = λ can. absurd (full can); taken = λ _. cost }
place_taken (Err fault) n old new full geometry cost = tt

-- what follows programs nothing
pub place_then : (n : ℕ) (old mid new : Ram) → new.geometry ≡ mid.geometry → new.blocks ≡ mid.blocks → new.next ≡ mid.next → HasMadePlace n old mid → HasMadePlace n old new
place_then n old mid new geometry blocks next p = record {
  geometry = geometry ∙ p.geometry;
  free = λ can. (blocks ∙ (p.free can).0, next ∙ (p.free can).1);
  taken = λ no. put_to Meta old mid new blocks next (p.taken no);
}

pub ready_then : (n : ℕ) (old mid new : Ram) → new.geometry ≡ mid.geometry → new.blocks ≡ mid.blocks → new.next ≡ mid.next → HasMadeRoomAndPlace n old mid → HasMadeRoomAndPlace n old new
ready_then n old mid new geometry blocks next p = record { mid = p.mid; room = p.room; place = place_then n p.mid mid new geometry blocks next p.place }

pub ready_found : (result : Result (Option ℕ) EngineFault) (n : ℕ) (old first mid new : Ram) (fault : Option EngineFault) → HasMadeRoom 9 false old first → new ≡ record mid { fault = fault } → HasMadePlace n first mid → OnOk result (HasMadeRoomAndPlace n old new)
ready_found (Ok row) n old first mid new fault room is p = record { mid = first; room = room; place = place_then n first mid new (ap (λ (r : Ram). r.geometry) is) (ap (λ (r : Ram). r.blocks) is) (ap (λ (r : Ram). r.next) is) p }
ready_found (Err f) n old first mid new fault room is p = tt

-- a page of the sector comes after
put_of : (n : ℕ) (old mid new : Ram) → HasMadePlace n old mid → HasPut Data mid new → HasPutSector n old new
put_of n old mid new p page = record {
  free = λ can. put_from Data old mid new p.geometry (p.free can).0 (p.free can).1 page;
  taken = λ no. record { mid = mid; geometry = p.geometry; meta = p.taken no; page = page };
}

pub cost_of : (n : ℕ) (old mid new : Ram) → HasMadeRoomAndPlace n old mid → HasPut Data mid new → HasCost n old new
cost_of n old mid new p page = record { mid = p.mid; room = p.room; put = put_of n p.mid mid new p.place page }

-- what the engine's memory tells of a page that was refused
pub page_tells : (fault : EngineFault) (a b c : Ram) → good_count b.blocks.table ≤ good_count a.blocks.table → PageCosts Data b c (Err fault) → CallTells {A = Unit {0}} a c (Err (call.Engine fault))
page_tells engine_fault.ReadOnly a b c fewer h = (omega (arith, h.none.none_free), omega (arith, h.found.good))
page_tells engine_fault.SequenceSpent a b c fewer h = h.last
page_tells engine_fault.Damaged a b c fewer h = tt
page_tells engine_fault.Bus a b c fewer h = tt

-- ---- what the device answers

pub on_any : {P : Type 0} (result : Result (Unit {0}) CallFault) → P → OnOk result P
on_any (Ok done) p = p
on_any (Err fault) p = tt

-- what is so of a call that was done is so of the answer, whatever else the device notes
pub done_after : {N : Type 0} (P : Engine N → Type 0) (e last : Engine N) (answer : Result (Unit {0}) CallFault) (result : Result (Unit {0}) DeviceFault) (good : ℕ) → last ≡ e → result ≡ answer_of (ram last) good answer → OnOk answer (P e) → OnOk result (P last)
done_after P e last answer result good same is h = subst (λ r. OnOk r (P last)) (sym is) (done_too (P last) answer good (ram last) (subst (λ x. OnOk answer (P x)) (sym same) h))

-- the answer of a read-only device
pub closed_is : (r : Ram) (ro : Bool) (n : ℕ) (fault : DeviceFault) → MayNot r ro n fault → stop_of r.fault ≡ None → n < r.geometry.sectors → ro ≡ true → fault ≡ ReadOnly (good_count r.blocks.table) (need_at r.geometry r.mapping.share) 0
closed_is r ro n OutOfRange m going within shut = absurd (omega (arith, m.past))
closed_is r ro n (ReadOnly good wanted failed) m going within shut =
    let a : good ≡ good_count r.blocks.table = m.short.good_is in
    let b : wanted ≡ need_at r.geometry r.mapping.share = m.short.wanted_is in
    let c : failed ≡ 0 = omega (arith, a, m.short.failed_is) in cc
closed_is r ro n SequenceSpent m going within shut = (let may : ro ≡ false = m.writable in let no : ⊥ = cc in absurd no)
closed_is r ro n OutOfMemory m going within shut = absurd m
closed_is r ro n Damaged m going within shut = (let no : ⊥ = cc in absurd no)
closed_is r ro n BusFault m going within shut = (let no : ⊥ = cc in absurd no)

-- and of one that has no sequence left
pub spent_is : (r : Ram) (ro : Bool) (n : ℕ) (fault : DeviceFault) → MayNot r ro n fault → stop_of r.fault ≡ None → n < r.geometry.sectors → ro ≡ false → fault ≡ SequenceSpent
spent_is r ro n OutOfRange m going within writable = absurd (omega (arith, m.past))
spent_is r ro n (ReadOnly good wanted failed) m going within writable = (let shut : ro ≡ true = m.closed in let no : ⊥ = cc in absurd no)
spent_is r ro n SequenceSpent m going within writable = refl
spent_is r ro n OutOfMemory m going within writable = absurd m
spent_is r ro n Damaged m going within writable = (let no : ⊥ = cc in absurd no)
spent_is r ro n BusFault m going within writable = (let no : ⊥ = cc in absurd no)

-- want of memory comes later
abbrev device_err : DeviceFault → Result (Unit {0}) DeviceFault
device_err fault = Err fault

pub never_memory : (r : Ram) (ro : Bool) (n : ℕ) (fault : DeviceFault) → MayNot r ro n fault → device_err fault ≡ device_err OutOfMemory → ⊥
never_memory r ro n fault m e = (let same : fault ≡ OutOfMemory = cc in subst (MayNot r ro n) same m)

-- and a sector in range is in range
past_is : (r : Ram) (ro : Bool) (n : ℕ) (fault : DeviceFault) → n < r.geometry.sectors → fault ≡ OutOfRange → MayNot r ro n fault → ⊥
past_is r ro n fault within same m = (let beyond : IsBeyond r n = subst (MayNot r ro n) same m in omega (arith, beyond.past, within))

pub never_past : (r : Ram) (ro : Bool) (n : ℕ) (fault : DeviceFault) → n < r.geometry.sectors → MayNot r ro n fault → device_err fault ≡ device_err OutOfRange → ⊥
never_past r ro n fault within m e = past_is r ro n fault within (cc) m

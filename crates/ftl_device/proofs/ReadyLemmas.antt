-- A sector is made ready: the place that its entry finds.
use Rattle.std.proofs.Common.{◌≡◌, ◌≢◌, ℕ, zero, suc, ◌-◌, ◌/◌, ◌<◌, ◌∙◌, true, false, eqb, List, [], ◌∷◌, length, map, slice_get, Option, Some}
use Rattle.std.proofs.Common.{None, IsSome, Result, Ok, Err, OnOk, refl, sym, ap, subst}
use Rattle.std.specs.Prelude.{slice_set}
use Rattle.std.specs.List.{IsDistinct}
use Rattle.std.specs.Option.{ForSome, option_map, option_map_or}
use Rattle.std.specs.Map.{keys_of, lookup, lookup_entry, remove_entry}
use Rattle.std.proofs.lemmas.Bool.{eqb-true, cond-true, cond-false}
use Rattle.std.proofs.lemmas.Map.{lookup-none}
use Rattle.std.proofs.lemmas.Map.Keys.{IsDistinct-head, IsDistinct-tail}
use Rattle.std.proofs.lemmas.List.{length-map}
use Rattle.std.proofs.lemmas.Option.{slice_get-map}
use Rattle.ftl_device.proofs.RenewedLemmas.{adds_then}
use Rattle.page_layout.specs.declared.geometry.Geometry.{Geometry}
use Rattle.page_layout.specs.declared.record.Kind.{Kind}
use Rattle.page_layout.specs.Page.{Image}
use Rattle.page_layout.specs.Array.{array_of, content_of_kind}
use Rattle.page_layout.specs.Geometry.{entries, translation_pages}
use Rattle.page_layout.proofs.GeometryLemmas.{sector_entry}
use Rattle.mapping_cache.specs.declared.slot.Slot.{Slot}
use Rattle.mapping_cache.specs.Mapping.{MappingState, IsMapping, CanLoad, per_page, slot_of, moved_row, pending, pending_by, used, loaded, loaded_by}
use Rattle.mapping_cache.proofs.Entries.{by_test, eqb_self, lookup-from_entry, entry_passes}
use Rattle.mapping_cache.proofs.Clean.{passes_from_keys}
use Rattle.mapping_cache.proofs.Steps.{known-cached, pending-at, not_moved}
use Rattle.collection.specs.declared.fault.EngineFault.{EngineFault}
use Rattle.collection.specs.declared.fault.EngineFault.TheVariants.{Bus}
use Rattle.collection.specs.State.{Ram}
use Rattle.collection.specs.Safe.{IsRam}
use Rattle.collection.specs.Settle.{Cleans}
use Rattle.collection.specs.Results.{IsWritten}
use Rattle.ftl_device.specs.declared.fault.CallFault.{CallFault}
use Rattle.ftl_device.specs.declared.fault.CallFault.TheVariants.{Engine}
use Rattle.collection.specs.Left.{LeavesPin}
use Rattle.ftl_device.proofs.PinLemmas.{knows_beside}
use Rattle.ftl_device.specs.Calls.{IsMostRecent, KeepsArray, ChangesOneSector}

-- ---- an entry by its place

module _ {X : Type 0} where
  pub lookup_at : (es : List (ℕ × X)) (i : ℕ) (e : ℕ × X) → IsDistinct eqb (keys_of es) → slice_get es i ≡ Some e → lookup (eqb e.0) es ≡ Some e.1
  lookup_at [] i e d h = cc
  lookup_at (f ∷ es) zero e d h = (let same : f ≡ e = cc in subst (λ x. lookup (eqb x.0) (f ∷ es) ≡ Some x.1) same (cond-true _ _ _ (eqb_self f.0)))
  lookup_at (f ∷ es) (suc i) e d h =
      let found : lookup (eqb e.0) es ≡ Some e.1 = lookup_at es i e (IsDistinct-tail eqb f.0 (keys_of es) d) h in
      by_test (eqb e.0 f.0)
      (λ t.
      let none : lookup (eqb f.0) es ≡ None = lookup-none (eqb f.0) es (passes_from_keys f.0 es (IsDistinct-head eqb f.0 (keys_of es) d)) in
      let same : e.0 ≡ f.0 = eqb-true e.0 f.0 t in
      let gone : lookup (eqb e.0) es ≡ None = ap (λ k. lookup (eqb k) es) same ∙ none in
      let no : ⊥ = cc in absurd no)
      (λ f'. cond-false _ _ _ f' ∙ found)

-- ---- the least recently used sector

abbrev pub last_entry : List (ℕ × Slot) → Option (ℕ × Slot)
last_entry es = slice_get es (length es - 1)

-- it is one of the die's
pub least_page : (r : Ram) (k e : ℕ) (s : Slot) → IsRam r → last_entry r.mapping.cached ≡ Some (k, s) → e ≡ entries r.geometry → k / e < translation_pages r.geometry
least_page r k e s safe last same =
    let slot : slot_of r.mapping k ≡ Some s = lookup_at r.mapping.cached (length r.mapping.cached - 1) (k, s) safe.mapping.distinct last in
    let fits = safe.mapping.known_in k s.row (known-cached r.mapping k safe.mapping s slot) in
    rw same (sector_entry r.geometry k (subst (λ g. k < g.sectors) safe.mapping_of fits.sector))

clean_slot : (s : Slot) → pending_by (Some s) None ≡ None → s.dirty ≡ false
clean_slot s none = by_test s.dirty
    (λ t. let no : Some s.row ≡ None = sym (cond-true _ _ _ t) ∙ none in cc)
    (λ f. f)

-- with the same sectors cached, the last one is the same sector
pub last_key : (old new : List (ℕ × Slot)) (k : ℕ) (s : Slot) → keys_of new ≡ keys_of old → last_entry old ≡ Some (k, s) → ForSome (last_entry new) (λ e. e.0 ≡ k)
last_key old new k s keys last e is =
    let fst : ℕ × Slot → ℕ = λ x. x.0 in
    let size : length new ≡ length old = sym (length-map new fst) ∙ (ap length keys ∙ length-map old fst) in
    let a : slice_get (map fst new) (length new - 1) ≡ Some e.0 = slice_get-map fst new (length new - 1) ∙ ap (option_map fst) is in
    let b : slice_get (map fst old) (length old - 1) ≡ Some k = slice_get-map fst old (length old - 1) ∙ ap (option_map fst) last in
    let c : slice_get (map fst new) (length new - 1) ≡ slice_get (map fst old) (length old - 1) = ap (λ ks. slice_get ks (length new - 1)) keys ∙ ap (λ n. slice_get (map fst old) (n - 1)) size in
    let d : Some e.0 ≡ Some k = sym a ∙ (c ∙ b) in cc

-- once its translation page lacks nothing, its entry may be dropped
pub place_cleaned : (old new : MappingState) (n k t : ℕ) (s : Slot) → IsMapping new → last_entry old.cached ≡ Some (k, s) → t ≡ k / per_page old → keys_of new.cached ≡ keys_of old.cached → Cleans (per_page old) t old new → CanLoad new n
place_cleaned old new n k t s safe last page keys cleans = λ none full e is.
    let same : e.0 ≡ k = last_key old.cached new.cached k s keys last e is in
    let slot : slot_of new e.0 ≡ Some e.1 = lookup_at new.cached (length new.cached - 1) e safe.distinct is in
    let lacks : pending new e.0 ≡ None = cleans.clean e.0 (ap (λ x. x / per_page old) same ∙ sym page) in
    let unmoved : moved_row new e.0 ≡ None = not_moved new e.0 safe (rw slot refl) in
    clean_slot e.1 (sym (pending-at new e.0 (Some e.1) None slot unmoved) ∙ lacks)

pub place_made : (result : Result (Unit {0}) EngineFault) (old new : Ram) (n k e : ℕ) (s : Slot) → IsRam old → IsRam new
    → last_entry old.mapping.cached ≡ Some (k, s) → e ≡ entries old.geometry → keys_of new.mapping.cached ≡ keys_of old.mapping.cached
    → OnOk result (Cleans (per_page old.mapping) (k / e) old.mapping new.mapping) → OnOk result (CanLoad new.mapping n)
place_made (Ok done) old new n k e s safe safe' last same keys cleans = place_cleaned old.mapping new.mapping n k (k / e) s safe'.mapping last (ap (λ x. k / x) (same ∙ ap entries (sym safe.mapping_of))) keys cleans
place_made (Err fault) old new n k e s safe safe' last same keys cleans = tt

-- a look-up leaves it
pub place_stays : (result : Result (Option ℕ) EngineFault) (old new : Ram) (n : ℕ) (fault : Option EngineFault) → new ≡ record old { fault = fault } → CanLoad old.mapping n → OnOk result (CanLoad new.mapping n)
place_stays (Ok row) old new n fault same can = (let P : MappingState → Type 0 = λ m. CanLoad m n in subst P (sym (ap (λ (r : Ram). r.mapping) same)) can)
place_stays (Err f) old new n fault same can = tt

-- ---- one call after another

-- the same sectors are cached
some_by_keys : (n : ℕ) (old new : List (ℕ × Slot)) → keys_of new ≡ keys_of old → IsSome (lookup (eqb n) old) → IsSome (lookup (eqb n) new)
some_by_keys n [] [] keys some = some
some_by_keys n [] (y ∷ ys) keys some = (let no : ⊥ = cc in absurd no)
some_by_keys n (x ∷ xs) [] keys some = (let no : ⊥ = cc in absurd no)
some_by_keys n (x ∷ xs) (y ∷ ys) keys some =
    let first : y.0 ≡ x.0 = cc in
    let rest : keys_of ys ≡ keys_of xs = cc in
    by_test (eqb n x.0)
    (λ t. rw (cond-true _ (Some y.1) (lookup (eqb n) ys) (ap (eqb n) first ∙ t)) refl)
    (λ f.
    let tail : IsSome (lookup (eqb n) xs) = subst IsSome (cond-false (eqb n x.0) (Some x.1) (lookup (eqb n) xs) f) some in
    subst IsSome (sym (cond-false (eqb n y.0) (Some y.1) (lookup (eqb n) ys) (ap (eqb n) first ∙ f))) (some_by_keys n xs ys rest tail))

pub same_slots : (n : ℕ) (old new : MappingState) → keys_of new.cached ≡ keys_of old.cached → IsSome (slot_of old n) → IsSome (slot_of new n)
same_slots n old new keys some = some_by_keys n old.cached new.cached keys some

-- an answer is no fault
pub ok_not_bus : {A : Type 0} (x : A) → Ok x ≢ Err (Engine Bus)
ok_not_bus x e = (let never : ⊥ = cc in never)

abbrev call_err : CallFault → Result (Unit {0}) CallFault
call_err fault = Err fault

abbrev engine_err : EngineFault → Result (Unit {0}) EngineFault
engine_err fault = Err fault

pub engine_not_bus : (fault : EngineFault) → call_err (Engine fault) ≢ call_err (Engine Bus) → engine_err fault ≢ engine_err Bus
engine_not_bus fault ne e = (let same : fault ≡ Bus = cc in ne (ap (λ f. call_err (Engine f)) same))

-- ---- the most recently used sector

used_first : (m : MappingState) (n : ℕ) → IsSome (slot_of m n) → IsMostRecent n (used m n)
used_first m n some = at (lookup_entry (eqb n) m.cached) refl
  where
    at : (o : Option (ℕ × Slot)) → lookup_entry (eqb n) m.cached ≡ o → slice_get (keys_of (option_map_or (λ e. e ∷ remove_entry (eqb n) m.cached) o m.cached)) 0 ≡ Some n
    at None h = (let none : lookup (eqb n) m.cached ≡ None = lookup-from_entry (eqb n) m.cached ∙ ap (option_map (λ (e : ℕ × Slot). e.1)) h in let no : false ≡ true = subst IsSome none some in cc)
    at (Some f) h = ap Some (sym (eqb-true n f.0 (entry_passes (eqb n) m.cached f h)))

loaded_first : (m : MappingState) (n : ℕ) (row : Option ℕ) (o : Option Slot) → slot_of m n ≡ o → IsMostRecent n (loaded_by o m n row)
loaded_first m n row None is = refl
loaded_first m n row (Some s) is = used_first m n (subst IsSome (sym is) refl)

pub most_recent : (m new : MappingState) (n : ℕ) (row : Option ℕ) → new ≡ loaded m n row → IsMostRecent n new
most_recent m new n row same = subst (IsMostRecent n) (sym same) (loaded_first m n row (slot_of m n) refl)

pub recent_kept : (n : ℕ) (old new : MappingState) → keys_of new.cached ≡ keys_of old.cached → IsMostRecent n old → IsMostRecent n new
recent_kept n old new keys first = ap (λ ks. slice_get ks 0) keys ∙ first

-- ---- a sector that was made ready and written

pub written_ready : (g : Geometry) (n : ℕ) (kind : Kind) (body : List ℕ) (mid new : Ram) (before between after : Image) → mid.geometry ≡ g → IsRam mid → IsRam new → LeavesPin mid new → KeepsArray g before mid between → IsWritten kind n body mid between new after
    → ChangesOneSector g n (content_of_kind g kind body) before new after
written_ready g n kind body mid new before between after same s t beside kept written = record {
  truth = knows_beside mid new between after s t beside kept.truth written.truth written.leaves;
  array = ap (λ h. array_of h after) (sym same) ∙ (written.array
      ∙ (ap (λ h. slice_set (array_of h between) n (content_of_kind h kind body)) same ∙ ap (λ xs. slice_set xs n (content_of_kind g kind body)) kept.array));
  versions = adds_then g mid.geometry before between after same kept.versions written.leaves.versions;
}

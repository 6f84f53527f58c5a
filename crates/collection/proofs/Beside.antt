-- Calls that are no steps of a pinned block leave its pin, and move no sector more.
use Rattle.std.proofs.Common.{◌≡◌, ◌⊎◌, inl, inr, ℕ, zero, suc, ◌/◌, ◌==◌, ◌≤◌, Bool, true, false, not, List, [], ◌∷◌, length, filter, Option, Some, None, Result, Ok, Err, OnOk, refl, ap, sym, ◌∙◌, subst, arith}
use Rattle.std.proofs.lemmas.Bool.{ne_eqb}
use Rattle.page_layout.specs.Geometry.{entries}
use Rattle.mapping_cache.specs.declared.slot.Slot.{Slot}
use Rattle.mapping_cache.specs.Mapping.{MappingState, HasLimitsOf, per_page, moved_in, loaded, loaded_by, slot_of, cleaned}
use Rattle.collection.specs.declared.fault.EngineFault.{EngineFault}
use Rattle.collection.specs.State.{Ram}
use Rattle.collection.specs.Results.{Goes}
use Rattle.collection.specs.Left.{LeavesPin}
use Rattle.collection.proofs.Memory.{goes_same, goes_then}

-- ---- a part of the moved list

few_head : (f : ℕ × ℕ → Bool) (e : ℕ × ℕ) (ms : List (ℕ × ℕ)) (b : Bool) → f e ≡ b → length (filter f ms) ≤ length ms → length (filter f (e ∷ ms)) ≤ length (e ∷ ms)
few_head f e ms true is rest = rw is (omega (arith, rest))
few_head f e ms false is rest = rw is (omega (arith, rest))

few_in : (f : ℕ × ℕ → Bool) (ms : List (ℕ × ℕ)) → length (filter f ms) ≤ length ms
few_in f [] = omega arith
few_in f (e ∷ ms) = few_head f e ms (f e) refl (few_in f ms)

part_head : (f : ℕ × ℕ → Bool) (pp t : ℕ) (e : ℕ × ℕ) (ms : List (ℕ × ℕ)) (b : Bool) → f e ≡ b → (c : Bool) → (e.0 / pp == t) ≡ c → length (moved_in pp t (filter f ms)) ≤ length (moved_in pp t ms) → length (moved_in pp t (filter f (e ∷ ms))) ≤ length (moved_in pp t (e ∷ ms))
part_head f pp t e ms true is true of_page rest = rw (is, of_page) (omega (arith, rest))
part_head f pp t e ms true is false of_page rest = rw (is, of_page) rest
part_head f pp t e ms false is true of_page rest = rw (is, of_page) (omega (arith, rest))
part_head f pp t e ms false is false of_page rest = rw (is, of_page) rest

part_of_page : (f : ℕ × ℕ → Bool) (pp t : ℕ) (ms : List (ℕ × ℕ)) → length (moved_in pp t (filter f ms)) ≤ length (moved_in pp t ms)
part_of_page f pp t [] = omega arith
part_of_page f pp t (e ∷ ms) = part_head f pp t e ms (f e) refl (e.0 / pp == t) refl (part_of_page f pp t ms)

still_some : (a b : ℕ) → a ≤ b → not (a == 0) ≡ true → not (b == 0) ≡ true
still_some zero b le e = (let no : ⊥ = cc in absurd no)
still_some (suc a) zero le e = absurd (omega arith)
still_some (suc a) (suc b) le e = ap not (ne_eqb (suc b) 0 (λ z. (let no : ⊥ = absurd (omega arith) in no)))

-- ---- one call

module _ (old new : Ram) (pin : new.pin ≡ old.pin) (goes : Goes old new) where
  -- some of the moved sectors are left
  pub beside_filtered : (f : ℕ × ℕ → Bool) → HasLimitsOf old.mapping new.mapping → new.mapping.moved ≡ filter f old.mapping.moved → LeavesPin old new
  beside_filtered f limits part = record {
    pin = pin;
    goes = goes;
    share = limits.share;
    fewer = (let e = few_in f old.mapping.moved in rw part e);
    moved = λ t now.
        let of_page : moved_in (per_page new.mapping) t new.mapping.moved ≡ moved_in (per_page old.mapping) t (filter f old.mapping.moved) = ap (λ g. moved_in (entries g) t new.mapping.moved) limits.geometry ∙ ap (moved_in (per_page old.mapping) t) part in
        still_some (length (moved_in (per_page new.mapping) t new.mapping.moved)) (length (moved_in (per_page old.mapping) t old.mapping.moved)) (let e = part_of_page f (per_page old.mapping) t old.mapping.moved in rw of_page e) now;
  }

  pub beside_same : new.mapping.moved ≡ old.mapping.moved → HasLimitsOf old.mapping new.mapping → LeavesPin old new
  beside_same same limits = record {
    pin = pin;
    goes = goes;
    share = limits.share;
    fewer = (let e = ap (λ (l : List (ℕ × ℕ)). length l) same in omega (arith, e));
    moved = λ t now. sym (ap (λ l. not (length (moved_in (per_page old.mapping) t l) == 0)) same) ∙ (sym (ap (λ g. not (length (moved_in (entries g) t new.mapping.moved) == 0)) limits.geometry) ∙ now);
  }

  -- a translation page was written, or the call was refused
  pub beside_written : (t : ℕ) → (new.mapping ≡ old.mapping) ⊎ (new.mapping ≡ cleaned old.mapping t) → LeavesPin old new
  beside_written t is = elim is [
    | inl same ↦ beside_same (ap (λ (m : MappingState). m.moved) same) (record { geometry = ap (λ (m : MappingState). m.geometry) same; capacity = ap (λ (m : MappingState). m.capacity) same; share = ap (λ (m : MappingState). m.share) same })
    | inr clean ↦ beside_filtered (λ e. not (e.0 / per_page old.mapping == t)) (record { geometry = ap (λ (m : MappingState). m.geometry) clean; capacity = ap (λ (m : MappingState). m.capacity) clean; share = ap (λ (m : MappingState). m.share) clean }) (ap (λ (m : MappingState). m.moved) clean)
  ]

-- nothing but the mapping changes
goes_mapped : (old : Ram) (m : MappingState) → Goes old (record old { mapping = m })
goes_mapped old m = (let g = goes_same old in record { geometry = g.geometry; next = g.next; shut = g.shut })

mapped_by : (slot : Option Slot) (old : Ram) (n : ℕ) (row : Option ℕ) → LeavesPin old (record old { mapping = loaded_by slot old.mapping n row })
mapped_by (Some s) old n row = beside_same old (record old { mapping = loaded_by (Some s) old.mapping n row }) refl (goes_mapped old (loaded_by (Some s) old.mapping n row)) refl (record { geometry = refl; capacity = refl; share = refl })
mapped_by None old n row = beside_filtered old (record old { mapping = loaded_by None old.mapping n row }) refl (goes_mapped old (loaded_by None old.mapping n row)) (λ e. not (e.0 == n)) (record { geometry = refl; capacity = refl; share = refl }) refl

-- a sector was cached
pub beside_loaded : (old new : Ram) (n : ℕ) (row : Option ℕ) → new ≡ record old { mapping = loaded old.mapping n row } → LeavesPin old new
beside_loaded old new n row is = (let P : Ram → Type 0 = λ r. LeavesPin old r in subst P (sym is) (mapped_by (slot_of old.mapping n) old n row))

-- ---- one call after another

pub beside_then : (a b c : Ram) → LeavesPin a b → LeavesPin b c → LeavesPin a c
beside_then a b c x y = record {
  pin = y.pin ∙ x.pin;
  goes = goes_then a b c x.goes y.goes;
  share = y.share ∙ x.share;
  fewer = omega (arith, x.fewer, y.fewer);
  moved = λ t now. x.moved t (y.moved t now);
}

-- a fault that is noted changes nothing of it
pub beside_noted : (fault : Option EngineFault) (a b : Ram) → LeavesPin a b → LeavesPin a (record b { fault = fault })
beside_noted fault a b x = record { pin = x.pin; goes = (let g = x.goes in record { geometry = g.geometry; next = g.next; shut = g.shut }); share = x.share; fewer = x.fewer; moved = x.moved }

-- also where nothing is said of a refused call
pub beside_noted_ok : {A : Type 0} (fault : Option EngineFault) (a b : Ram) (result : Result A EngineFault) → OnOk result (LeavesPin a b) → OnOk result (LeavesPin a (record b { fault = fault }))
beside_noted_ok fault a b (Ok u) x = beside_noted fault a b x
beside_noted_ok fault a b (Err f) x = tt

-- What each step of the mapping does to the rows that it knows.
use Rattle.std.proofs.Common.{◌≡◌, ◌≢◌, ℕ, suc, ◌+◌, ◌-◌, ◌/◌, ◌<◌, ◌≤◌, ◌∙◌, Bool, true, false, not, cond, eqb, List, [], ◌∷◌, length, take, map}
use Rattle.std.proofs.Common.{Option, Some, None, refl, sym, ap, subst, ◌⊎◌, inl, inr, arith, unwrap_or, IsSome, take_all}
use Rattle.std.proofs.Common.{length-take}
use Rattle.std.specs.Cmp.{nat_eq_equiv}
use Rattle.std.specs.List.{IsDistinct}
use Rattle.std.specs.Option.{ForSome, option_map}
use Rattle.std.specs.Map.{keys_of, lookup}
use Rattle.std.proofs.lemmas.Bool.{eqb-true, eqb-false, eq-eqb, ne_eqb, cond-true, cond-false, cases_lt}
use Rattle.std.proofs.lemmas.Map.{lookup-set_value, keys-set_value, length-set_value}
use Rattle.std.proofs.lemmas.Map.Entries.{lookup-filter-keys}
use Rattle.page_layout.specs.declared.geometry.Geometry.{Geometry}
use Rattle.page_layout.specs.Geometry.{IsShare}
use Rattle.lru.specs.LruCache.{last_entry}
use Rattle.mapping_cache.specs.declared.slot.Slot.{Slot}
use Rattle.mapping_cache.specs.Mapping.{MappingState, IsMapping, IsEntryOf, CanMove, moved_room, per_page, slot_of, moved_row, known_by, pending_by, known}
use Rattle.mapping_cache.specs.Mapping.{pending, new_slot, placed, inserted, used, with_dirty, dropped, with_moved, clean_entry, cleaned}
use Rattle.mapping_cache.proofs.Entries.{by_test, one_key, eqb_self, IsDistinct-take, IsDistinct-first}
use Rattle.mapping_cache.proofs.Entries.{IsDistinct-promoted, lookup-promoted, length-promoted, lookup-take_none, lookup-front}
use Rattle.mapping_cache.proofs.Entries.{filter-without, length-filter}
use Rattle.mapping_cache.proofs.Places.{IsBySector-filter, IsBySector-placed, lookup-placed, length-placed, length-placed_again}

-- what a state knows goes by the slot and the moved row
pub known-same : (m' m : MappingState) (n : ℕ) → slot_of m' n ≡ slot_of m n → moved_row m' n ≡ moved_row m n → known m' n ≡ known m n
unfolding known
known-same m' m n s r = ap (λ o. known_by o (moved_row m' n)) s ∙ ap (known_by (slot_of m n)) r

pub pending-same : (m' m : MappingState) (n : ℕ) → slot_of m' n ≡ slot_of m n → moved_row m' n ≡ moved_row m n → pending m' n ≡ pending m n
unfolding pending
pending-same m' m n s r = ap (λ o. pending_by o (moved_row m' n)) s ∙ ap (pending_by (slot_of m n)) r

pub known-at : (m : MappingState) (n : ℕ) (s : Option Slot) (r : Option ℕ) → slot_of m n ≡ s → moved_row m n ≡ r → known m n ≡ known_by s r
unfolding known
known-at m n s r e f = ap (λ o. known_by o (moved_row m n)) e ∙ ap (known_by s) f

pub pending-at : (m : MappingState) (n : ℕ) (s : Option Slot) (r : Option ℕ) → slot_of m n ≡ s → moved_row m n ≡ r → pending m n ≡ pending_by s r
unfolding pending
pending-at m n s r e f = ap (λ o. pending_by o (moved_row m n)) e ∙ ap (pending_by s) f

-- what is known stays in range where one sector has a new row
pub rows_after : (g : Geometry) (m' m : MappingState) (k : ℕ) (row : Option ℕ) → IsEntryOf g k row → known m' k ≡ Some row
    → ((n : ℕ) → n ≢ k → ForSome (known m' n) (λ r. known m n ≡ Some r)) → ((n : ℕ) → ForSome (known m n) (IsEntryOf g n)) → (n : ℕ)
    → ForSome (known m' n) (IsEntryOf g n)
rows_after g m' m k row fits here others old n r e = by_test (eqb n k)
    (λ t.
    let key = eqb-true n k t in
    let at : Some row ≡ Some r = sym here ∙ subst (λ z. known m' z ≡ Some r) key e in
    let same : row ≡ r = cc in
    subst (λ z. IsEntryOf g z r) (sym key) (subst (IsEntryOf g k) same fits))
    (λ f. old n r (others n (eqb-false n k f) r e))

pub either_row : (g : Geometry) (n : ℕ) (o : Option (Option ℕ)) (row : Option ℕ) → ForSome o (IsEntryOf g n) → IsEntryOf g n row → IsEntryOf g n (unwrap_or o row)
either_row g n None row h fits = fits
either_row g n (Some r) row h fits = h r refl

-- what is pending is known
pub known-pending : (m : MappingState) (n : ℕ) → ForSome (pending m n) (λ r. known m n ≡ Some r)
known-pending m n r h = known-at m n (slot_of m n) (moved_row m n) refl refl ∙ pending_known (slot_of m n) (moved_row m n) r (sym (pending-at m n (slot_of m n) (moved_row m n) refl refl) ∙ h)
  where
    pending_known : (a : Option Slot) (b : Option ℕ) (r : Option ℕ) → pending_by a b ≡ Some r → known_by a b ≡ Some r
    pending_known a (Some x) r e = e
    pending_known None None r e = cc
    pending_known (Some s) None r e = by_test s.dirty
        (λ d. sym (cond-true _ _ _ d) ∙ e)
        (λ d. let no : None ≡ Some r = sym (cond-false _ _ _ d) ∙ e in cc)

-- a cached sector isn't on the moved list
pub not_moved : (m : MappingState) (n : ℕ) → IsMapping m → IsSome (slot_of m n) → moved_row m n ≡ None
not_moved m n v h = at (moved_row m n) refl
  where
    none : (o : Option Slot) → o ≡ None → IsSome o → ⊥
    none None e h = cc
    none (Some s) e h = cc

    at : (o : Option ℕ) → moved_row m n ≡ o → o ≡ None
    at None e = refl
    at (Some r) e = absurd (none (slot_of m n) (v.apart n r e) h)

-- ---- a use
pub slot_of-used : (m : MappingState) (k n : ℕ) → IsMapping m → slot_of (used m k) n ≡ slot_of m n
slot_of-used m k n v = lookup-promoted k n m.cached v.distinct

pub known-used : (m : MappingState) (k n : ℕ) → IsMapping m → known (used m k) n ≡ known m n
known-used m k n v = known-same (used m k) m n (slot_of-used m k n v) refl

pub pending-used : (m : MappingState) (k n : ℕ) → IsMapping m → pending (used m k) n ≡ pending m n
pending-used m k n v = pending-same (used m k) m n (slot_of-used m k n v) refl

pub IsMapping-used : (m : MappingState) (k : ℕ) → IsMapping m → IsMapping (used m k)
IsMapping-used m k v = record {
  distinct = IsDistinct-promoted k m.cached v.distinct;
  within = rw (length-promoted (eqb k) m.cached) v.within;
  holds_one = v.holds_one;
  has_share = v.has_share;
  by_sector = v.by_sector;
  moved_within = v.moved_within;
  apart = λ n r h. slot_of-used m k n v ∙ v.apart n r h;
  known_in = λ n r h. v.known_in n r (sym (known-used m k n v) ∙ h);
}

pub known-cached : (m : MappingState) (k : ℕ) → IsMapping m → (s : Slot) → slot_of m k ≡ Some s → known m k ≡ Some s.row
known-cached m k v s e = known-at m k (Some s) None e (not_moved m k v (subst IsSome (sym e) refl))

-- a cached sector's row stays, whatever is offered
pub known-kept : (m : MappingState) (k : ℕ) (row : Option ℕ) → IsMapping m → IsSome (slot_of m k) → known (used m k) k ≡ Some (unwrap_or (known m k) row)
known-kept m k row v h = at (slot_of m k) refl h
  where
    at : (o : Option Slot) → slot_of m k ≡ o → IsSome o → known (used m k) k ≡ Some (unwrap_or (known m k) row)
    at None e h = cc
    at (Some s) e h = let here = known-cached m k v s e in known-used m k k v ∙ rw here

-- ---- a new row for a cached sector
module _ (m : MappingState) (k : ℕ) (row : Option ℕ) (v : IsMapping m) (h : IsSome (slot_of m k)) where
  slot_of-with_dirty : (n : ℕ) → slot_of (with_dirty m k row) n ≡ cond (eqb k n) (Some (record { row = row; dirty = true })) (slot_of m n)
  slot_of-with_dirty n = lookup-set_value nat_eq_equiv (eqb k) (one_key k) n _ m.cached h

  slot_here : slot_of (with_dirty m k row) k ≡ Some (record { row = row; dirty = true })
  slot_here = slot_of-with_dirty k ∙ cond-true _ _ _ (eqb_self k)

  slot_other : (n : ℕ) → n ≢ k → slot_of (with_dirty m k row) n ≡ slot_of m n
  slot_other n ne = slot_of-with_dirty n ∙ cond-false _ _ _ (ne_eqb k n (λ e. ne (sym e)))

  pub known-with_dirty : known (with_dirty m k row) k ≡ Some row
  known-with_dirty = known-at (with_dirty m k row) k _ None slot_here (not_moved m k v h)

  pub pending-with_dirty : pending (with_dirty m k row) k ≡ Some row
  pending-with_dirty = pending-at (with_dirty m k row) k _ None slot_here (not_moved m k v h)

  pub known-with_dirty_other : (n : ℕ) → n ≢ k → known (with_dirty m k row) n ≡ known m n
  known-with_dirty_other n ne = known-same (with_dirty m k row) m n (slot_other n ne) refl

  pub pending-with_dirty_other : (n : ℕ) → n ≢ k → pending (with_dirty m k row) n ≡ pending m n
  pending-with_dirty_other n ne = pending-same (with_dirty m k row) m n (slot_other n ne) refl

  pub keys-with_dirty : keys_of (with_dirty m k row).cached ≡ keys_of m.cached
  keys-with_dirty = keys-set_value (eqb k) m.cached (record { row = row; dirty = true })

  pub IsMapping-with_dirty : IsEntryOf m.geometry k row → IsMapping (with_dirty m k row)
  IsMapping-with_dirty fits = record {
    distinct = rw (keys-set_value (eqb k) m.cached (record { row = row; dirty = true })) v.distinct;
    within = rw (length-set_value (eqb k) m.cached (record { row = row; dirty = true })) v.within;
    holds_one = v.holds_one;
    has_share = v.has_share;
    by_sector = v.by_sector;
    moved_within = v.moved_within;
    apart = λ n r e. by_test (eqb k n)
        (λ t. let no = not_moved m k v h in let here = subst (λ z. moved_row m z ≡ Some r) (sym (eqb-true k n t)) e in cc)
        (λ f. slot_of-with_dirty n ∙ cond-false _ _ _ f ∙ v.apart n r e);
    known_in = rows_after m.geometry (with_dirty m k row) m k row fits known-with_dirty (λ n ne r e. sym (known-with_dirty_other n ne) ∙ e) v.known_in;
  }

-- a clean slot has nothing that its page lacks
pub nothing_pending : (s : Slot) (o : Option ℕ) → s.dirty ≡ false → pending_by None o ≡ pending_by (Some s) o
nothing_pending s None clean = sym (cond-false s.dirty (Some s.row) None clean)
nothing_pending s (Some r) clean = refl

-- ---- the least recently used entry goes
module _ (m : MappingState) (v : IsMapping m) where
  module _ (clean : ForSome (last_entry m.cached) (λ e. e.1.dirty ≡ false)) where
    pub pending-dropped : (n : ℕ) → pending (dropped m) n ≡ pending m n
    pending-dropped n = elim (lookup-front n m.cached) [
      | inl same ↦ pending-same (dropped m) m n same refl
      | inr w ↦ pending-at (dropped m) n None (moved_row m n) w.2 refl ∙ nothing_pending w.0.1 (moved_row m n) (clean w.0 w.1) ∙ sym (pending-at m n (Some w.0.1) (moved_row m n) w.3 refl)
    ]

  known_more : (s : Slot) (o : Option ℕ) (r : Option ℕ) → known_by None o ≡ Some r → known_by (Some s) o ≡ Some r
  known_more s None r h = cc
  known_more s (Some x) r h = h

  pub known-dropped : (n : ℕ) → ForSome (known (dropped m) n) (λ r. known m n ≡ Some r)
  known-dropped n r h = elim (lookup-front n m.cached) [
    | inl same ↦ sym (known-same (dropped m) m n same refl) ∙ h
    | inr w ↦ known-at m n (Some w.0.1) (moved_row m n) w.3 refl ∙ known_more w.0.1 (moved_row m n) r (sym (known-at (dropped m) n None (moved_row m n) w.2 refl) ∙ h)
  ]

  pub IsMapping-dropped : IsMapping (dropped m)
  IsMapping-dropped = record {
    distinct = IsDistinct-take (length m.cached - 1) m.cached v.distinct;
    within = let w = v.within in let t = length-take (length m.cached - 1) m.cached in omega arith;
    holds_one = v.holds_one;
    has_share = v.has_share;
    by_sector = v.by_sector;
    moved_within = v.moved_within;
    apart = λ n r e. lookup-take_none (length m.cached - 1) n m.cached (v.apart n r e);
    known_in = λ n r e. v.known_in n r (known-dropped n r e);
  }

-- ---- a sector that isn't cached is
-- room for one more entry
abbrev front : MappingState → MappingState
front m = record m { cached = take (m.capacity - 1) m.cached }

front_is : (m : MappingState) → IsMapping m → (front m ≡ m) ⊎ ((length m.cached ≡ m.capacity) × (front m ≡ dropped m))
front_is m v = let w = v.within in let c = v.holds_one in elim (cases_lt (length m.cached) m.capacity) [
  | inl less ↦ inl (ap (λ es. record m { cached = es }) (take_all (m.capacity - 1) m.cached (omega arith)))
  | inr full ↦ let same : length m.cached ≡ m.capacity = omega arith in inr (same, ap (λ c. record m { cached = take (c - 1) m.cached }) (sym same))
]

module _ (m : MappingState) (k : ℕ) (row : Option ℕ) (v : IsMapping m) (new : slot_of m k ≡ None) where
  known-front : (n : ℕ) → ForSome (known (front m) n) (λ r. known m n ≡ Some r)
  known-front n r h = elim (front_is m v) [
    | inl same ↦ subst (λ z. known z n ≡ Some r) same h
    | inr w ↦ known-dropped m v n r (subst (λ z. known z n ≡ Some r) w.1 h)
  ]

  moved_after : (n : ℕ) → moved_row (inserted m k row) n ≡ cond (eqb n k) None (moved_row m n)
  moved_after n = filter-without k n m.moved

  pub moved_here : moved_row (inserted m k row) k ≡ None
  moved_here = moved_after k ∙ cond-true _ _ _ (eqb_self k)

  moved_other : (n : ℕ) → n ≢ k → moved_row (inserted m k row) n ≡ moved_row m n
  moved_other n ne = moved_after n ∙ cond-false _ _ _ (ne_eqb n k ne)

  pub slot_at : slot_of (inserted m k row) k ≡ Some (new_slot (moved_row m k) row)
  slot_at = cond-true _ _ _ (eqb_self k)

  slot_past : (n : ℕ) → n ≢ k → slot_of (inserted m k row) n ≡ slot_of (front m) n
  slot_past n ne = cond-false _ _ _ (ne_eqb n k ne)

  knows : (o : Option ℕ) → known_by (Some (new_slot o row)) None ≡ Some (unwrap_or (known_by None o) row)
  knows None = refl
  knows (Some r) = refl

  pends : (o : Option ℕ) → pending_by (Some (new_slot o row)) None ≡ pending_by None o
  pends None = refl
  pends (Some r) = refl

  pub known-inserted : known (inserted m k row) k ≡ Some (unwrap_or (known m k) row)
  known-inserted = known-at (inserted m k row) k _ None slot_at moved_here ∙ knows (moved_row m k) ∙ ap (λ o. Some (unwrap_or o row)) (sym (known-at m k None (moved_row m k) new refl))

  pub known-inserted_other : (n : ℕ) → n ≢ k → ForSome (known (inserted m k row) n) (λ r. known m n ≡ Some r)
  known-inserted_other n ne r h = known-front n r (sym (known-same (inserted m k row) (front m) n (slot_past n ne) (moved_other n ne)) ∙ h)

  pub IsMapping-inserted : IsEntryOf m.geometry k row → IsMapping (inserted m k row)
  IsMapping-inserted fits = record {
    distinct = IsDistinct-first k (new_slot (moved_row m k) row) (take (m.capacity - 1) m.cached) (lookup-take_none (m.capacity - 1) k m.cached new) (IsDistinct-take (m.capacity - 1) m.cached v.distinct);
    within = let c = v.holds_one in let t = length-take (m.capacity - 1) m.cached in omega arith;
    holds_one = v.holds_one;
    has_share = v.has_share;
    by_sector = IsBySector-filter _ m.moved v.by_sector;
    moved_within = let w = v.moved_within in let f = length-filter (λ e. not (eqb e.0 k)) m.moved in omega arith;
    apart = λ n r e. by_test (eqb n k)
        (λ t. let no = moved_after n ∙ cond-true _ _ _ t in cc)
        (λ f. cond-false _ _ _ f ∙ lookup-take_none (m.capacity - 1) n m.cached (v.apart n r (sym (cond-false _ _ _ f) ∙ sym (moved_after n) ∙ e)));
    known_in = rows_after m.geometry (inserted m k row) m k (unwrap_or (known m k) row) (either_row m.geometry k (known m k) row (v.known_in k) fits) known-inserted known-inserted_other v.known_in;
  }

  module _ (clean : length m.cached ≡ m.capacity → ForSome (last_entry m.cached) (λ e. e.1.dirty ≡ false)) where
    pending-front : (n : ℕ) → pending (front m) n ≡ pending m n
    pending-front n = elim (front_is m v) [
      | inl same ↦ ap (λ z. pending z n) same
      | inr w ↦ ap (λ z. pending z n) w.1 ∙ pending-dropped m v (clean w.0) n
    ]

    pub pending-inserted : (n : ℕ) → pending (inserted m k row) n ≡ pending m n
    pending-inserted n = by_test (eqb n k)
        (λ t. let same = eqb-true n k t in rw same (pending-at (inserted m k row) k _ None slot_at moved_here ∙ pends (moved_row m k) ∙ sym (pending-at m k None (moved_row m k) new refl)))
        (λ f. let ne = eqb-false n k f in pending-same (inserted m k row) (front m) n (slot_past n ne) (moved_other n ne) ∙ pending-front n)

-- ---- a new row for a sector that isn't cached
module _ (m : MappingState) (k row : ℕ) (v : IsMapping m) (uncached : slot_of m k ≡ None) where
  moved_set : (n : ℕ) → moved_row (with_moved m k row) n ≡ cond (eqb n k) (Some row) (moved_row m n)
  moved_set n = lookup-placed k row n m.moved

  set_here : moved_row (with_moved m k row) k ≡ Some row
  set_here = moved_set k ∙ cond-true _ _ _ (eqb_self k)

  set_other : (n : ℕ) → n ≢ k → moved_row (with_moved m k row) n ≡ moved_row m n
  set_other n ne = moved_set n ∙ cond-false _ _ _ (ne_eqb n k ne)

  length-with_moved_room : CanMove m k → length (with_moved m k row).moved ≤ moved_room m.geometry m.share
  length-with_moved_room room = at (moved_row m k) refl
    where
      at : (o : Option ℕ) → moved_row m k ≡ o → length (placed k row m.moved) ≤ moved_room m.geometry m.share
      at None e = let r = room e in let more = length-placed k row m.moved in omega arith
      at (Some r) e = let w = v.moved_within in let same = length-placed_again k row m.moved r v.by_sector e in omega arith

  pub length-with_moved : length (with_moved m k row).moved ≤ length m.moved + 1
  length-with_moved = length-placed k row m.moved

  pub known-with_moved : known (with_moved m k row) k ≡ Some (Some row)
  known-with_moved = known-at (with_moved m k row) k None (Some row) uncached set_here

  pub pending-with_moved : pending (with_moved m k row) k ≡ Some (Some row)
  pending-with_moved = pending-at (with_moved m k row) k None (Some row) uncached set_here

  pub known-with_moved_other : (n : ℕ) → n ≢ k → known (with_moved m k row) n ≡ known m n
  known-with_moved_other n ne = known-same (with_moved m k row) m n refl (set_other n ne)

  pub pending-with_moved_other : (n : ℕ) → n ≢ k → pending (with_moved m k row) n ≡ pending m n
  pending-with_moved_other n ne = pending-same (with_moved m k row) m n refl (set_other n ne)

  pub IsMapping-with_moved : CanMove m k → IsEntryOf m.geometry k (Some row) → IsMapping (with_moved m k row)
  IsMapping-with_moved room fits = record {
    distinct = v.distinct;
    within = v.within;
    holds_one = v.holds_one;
    has_share = v.has_share;
    by_sector = IsBySector-placed k row m.moved v.by_sector;
    moved_within = length-with_moved_room room;
    apart = λ n r e. by_test (eqb n k)
        (λ t. rw (eqb-true n k t) uncached)
        (λ f. v.apart n r (sym (set_other n (eqb-false n k f)) ∙ e));
    known_in = rows_after m.geometry (with_moved m k row) m k (Some row) fits known-with_moved (λ n ne r e. sym (known-with_moved_other n ne) ∙ e) v.known_in;
  }

-- ---- a translation page with all its rows
keys-clean : (per_page t : ℕ) (es : List (ℕ × Slot)) → keys_of (map (clean_entry per_page t) es) ≡ keys_of es
keys-clean per_page t [] = refl
keys-clean per_page t (e ∷ es) = ap (λ ks. e.0 ∷ ks) (keys-clean per_page t es)

length-clean : (per_page t : ℕ) (es : List (ℕ × Slot)) → length (map (clean_entry per_page t) es) ≡ length es
length-clean per_page t [] = refl
length-clean per_page t (e ∷ es) = ap suc (length-clean per_page t es)

abbrev clean_at : ℕ → ℕ → ℕ → Slot → Slot
clean_at per_page t n s = (clean_entry per_page t (n, s)).1

lookup-clean : (per_page t n : ℕ) (es : List (ℕ × Slot)) → lookup (eqb n) (map (clean_entry per_page t) es) ≡ option_map (clean_at per_page t n) (lookup (eqb n) es)
lookup-clean per_page t n [] = refl
lookup-clean per_page t n (e ∷ es) = by_test (eqb n e.0)
    (λ y. rw (y, eqb-true n e.0 y))
    (λ f. rw f (lookup-clean per_page t n es))

module _ (m : MappingState) (t : ℕ) (v : IsMapping m) where
  slot_cleaned : (n : ℕ) → slot_of (cleaned m t) n ≡ option_map (clean_at (per_page m) t n) (slot_of m n)
  slot_cleaned n = lookup-clean (per_page m) t n m.cached

  moved_cleaned : (n : ℕ) → moved_row (cleaned m t) n ≡ cond (not (eqb (n / per_page m) t)) (moved_row m n) None
  moved_cleaned n = lookup-filter-keys (eqb n) (λ x. not (eqb (x / per_page m) t)) (not (eqb (n / per_page m) t)) (λ x e. ap (λ z. not (eqb (z / per_page m) t)) (sym (eqb-true n x e))) m.moved

  none_left : (n : ℕ) (o : Option Slot) → eqb (n / per_page m) t ≡ true → pending_by (option_map (clean_at (per_page m) t n) o) None ≡ None
  none_left n None y = refl
  none_left n (Some s) y = rw y

  as_before : (n : ℕ) (o : Option Slot) (r : Option ℕ) → eqb (n / per_page m) t ≡ false → pending_by (option_map (clean_at (per_page m) t n) o) r ≡ pending_by o r
  as_before n o (Some x) f = refl
  as_before n None None f = refl
  as_before n (Some s) None f = rw f

  pub pending-cleaned : (n : ℕ) → n / per_page m ≡ t → pending (cleaned m t) n ≡ None
  pending-cleaned n e = let y = eq-eqb (n / per_page m) t e in
      pending-at (cleaned m t) n _ None (slot_cleaned n) (moved_cleaned n ∙ cond-false _ _ _ (ap not y)) ∙ none_left n (slot_of m n) y

  pub pending-cleaned_other : (n : ℕ) → n / per_page m ≢ t → pending (cleaned m t) n ≡ pending m n
  pending-cleaned_other n ne = let f = ne_eqb (n / per_page m) t ne in
      pending-at (cleaned m t) n _ (moved_row m n) (slot_cleaned n) (moved_cleaned n ∙ cond-true _ _ _ (ap not f)) ∙ as_before n (slot_of m n) (moved_row m n) f ∙ sym (pending-at m n (slot_of m n) (moved_row m n) refl refl)

  fewer : (n : ℕ) (o : Option Slot) (b : Bool) (q : Option ℕ) (r : Option ℕ) → (b ≡ false → (x : ℕ) → q ≡ Some x → o ≡ None) → known_by (option_map (clean_at (per_page m) t n) o) (cond b q None) ≡ Some r → known_by o q ≡ Some r
  fewer n o true (Some x) r a h = h
  fewer n None true None r a h = h
  fewer n (Some s) true None r a h = h
  fewer n None false q r a h = cc
  fewer n (Some s) false None r a h = h
  fewer n (Some s) false (Some x) r a h = let no = a refl x refl in cc

  pub known-cleaned : (n : ℕ) → ForSome (known (cleaned m t) n) (λ r. known m n ≡ Some r)
  known-cleaned n r h =
      known-at m n (slot_of m n) (moved_row m n) refl refl ∙ fewer n (slot_of m n) (not (eqb (n / per_page m) t)) (moved_row m n) r (λ _ x e. v.apart n x e) (sym (known-at (cleaned m t) n _ _ (slot_cleaned n) (moved_cleaned n)) ∙ h)

  pub keys-cleaned : keys_of (cleaned m t).cached ≡ keys_of m.cached
  keys-cleaned = keys-clean (per_page m) t m.cached

  pub length-cleaned : length (cleaned m t).moved ≤ length m.moved
  length-cleaned = length-filter (λ e. not (eqb (e.0 / per_page m) t)) m.moved

  pub IsMapping-cleaned : IsMapping (cleaned m t)
  IsMapping-cleaned = record {
    distinct = rw (keys-clean (per_page m) t m.cached) v.distinct;
    within = rw (length-clean (per_page m) t m.cached) v.within;
    holds_one = v.holds_one;
    has_share = v.has_share;
    by_sector = IsBySector-filter _ m.moved v.by_sector;
    moved_within = let w = v.moved_within in let f = length-filter (λ e. not (eqb (e.0 / per_page m) t)) m.moved in omega arith;
    apart = λ n r e. by_test (eqb (n / per_page m) t)
        (λ y. let no = moved_cleaned n ∙ cond-false _ _ _ (ap not y) in cc)
        (λ f. slot_cleaned n ∙ ap (option_map (clean_at (per_page m) t n)) (v.apart n r (sym (cond-true _ _ _ (ap not f)) ∙ sym (moved_cleaned n) ∙ e)));
    known_in = λ n r e. v.known_in n r (known-cleaned n r e);
  }

-- a mapping that holds nothing
abbrev pub empty : Geometry → ℕ → ℕ → MappingState
empty g capacity share = record { geometry = g; capacity = capacity; share = share; cached = []; moved = [] }

pub IsMapping-empty : (g : Geometry) (capacity share : ℕ) → 0 < capacity → IsShare g share → IsMapping (empty g capacity share)
unfolding known IsDistinct
IsMapping-empty g capacity share c fits = record {
  distinct = tt;
  within = omega arith;
  holds_one = c;
  has_share = fits;
  by_sector = tt;
  moved_within = omega arith;
  apart = λ n r h. refl;
  known_in = λ n r h. cc;
}

-- A sector is moved, and its translation page follows.
use Rattle.std.proofs.Common.{◌≡◌, inl, inr, ℕ, ◌/◌, ◌==◌, Bool, true, false, List, [], ◌∷◌, ◌++◌, nat_eq, not, Option, Some, None, IsSome, refl, ap, sym, ◌∙◌, subst}
use Rattle.std.specs.Map.{keys_of}
use Rattle.std.specs.Prelude.{is_some}
use Rattle.mapping_cache.specs.declared.slot.Slot.{Slot}
use Rattle.std.proofs.lemmas.Map.Made.{IsSome-lookup_same_keys}
use Rattle.std.proofs.lemmas.Bool.{eq-eqb}
use Rattle.page_layout.specs.declared.record.Key.{Key}
use Rattle.page_layout.specs.declared.record.Key.TheVariants.{Sector, Translation, Table}
use Rattle.page_layout.specs.Geometry.{entries}
use Rattle.mapping_cache.specs.Mapping.{MappingState, slot_of, per_page, without_sector, without_page}
use Rattle.collection.specs.State.{Ram}
use Rattle.collection.specs.Settle.{SetsMapping}
use Rattle.collection.specs.Results.{Goes}
use Rattle.collection.specs.Collect.{FollowsCopy, IsFollowed, KeepsKeys}
use Rattle.collection.specs.Left.{LeavesPin}
use Rattle.collection.proofs.Beside.{beside_same, beside_filtered}

-- the cache has the same sectors
pub slot_by : (m m' : MappingState) (n : ℕ) → keys_of m'.cached ≡ keys_of m.cached → IsSome (slot_of m n) → IsSome (slot_of m' n)
slot_by m m' n same some = (IsSome-lookup_same_keys (nat_eq n) m.cached m'.cached (sym same)).0 some

pub some_or_none : {A : Type 0} (o : Option A) → IsSome o → o ≡ None → ⊥
some_or_none None some none = (let no : ⊥ = cc in no)
some_or_none (Some x) some none = (let no : ⊥ = cc in no)

pub none_if : {A : Type 0} (o : Option A) → is_some o ≡ false → o ≡ None
none_if None fails = refl
none_if (Some x) fails = (let never : ⊥ = cc in absurd never)

uncached_by : (m m' : MappingState) (n : ℕ) → keys_of m'.cached ≡ keys_of m.cached → slot_of m' n ≡ None → slot_of m n ≡ None
uncached_by m m' n same none = by (slot_of m n) refl
  where
    by : (o : Option Slot) → slot_of m n ≡ o → slot_of m n ≡ None
    by None is = is
    by (Some slot) is =
        let some : IsSome (Some slot) = refl in
        let here : IsSome (slot_of m n) = subst (λ (o : Option Slot). IsSome o) (sym is) some in
        absurd (some_or_none (slot_of m' n) (slot_by m m' n same here) none)

-- and so the same page follows a copy, before and after
pub follows_by : (a c : Ram) (key other : Key) → c.geometry ≡ a.geometry → keys_of c.mapping.cached ≡ keys_of a.mapping.cached → FollowsCopy c key other → FollowsCopy a key other
follows_by a c key other sized keys f = record {
  sector = f.sector;
  of_sector = f.of_sector;
  uncached = uncached_by a.mapping c.mapping f.sector keys f.uncached;
  page_is = f.page_is ∙ ap (λ g. Translation (f.sector / entries g)) sized;
}

-- ---- a page is put, and its translation page follows

followed_on : (pp pp' n : ℕ) (ms ms' : List (ℕ × ℕ)) → pp' ≡ pp → without_page pp (n / pp) ms' ≡ without_page pp (n / pp) ms → without_page pp' (n / pp') ms' ≡ without_page pp (n / pp) ms
followed_on pp pp' n ms ms' same but = ap (λ k. without_page k (n / k) ms') same ∙ but

-- no sector more is moved then
pub followed_beside : (key : Key) (at : ℕ) (a d : Ram) (m : MappingState) → d.pin ≡ a.pin → Goes a d → KeepsKeys a.mapping d.mapping → SetsMapping key at a.mapping m → IsFollowed key m d.mapping → LeavesPin a d
followed_beside (Sector n) at a d m pin goes keeps s f = elim f [
  | inl (some, same) ↦ beside_same a d pin goes (ap (λ (z : MappingState). z.moved) same ∙ s.unmoved (slot_by m a.mapping n (sym s.keys) some)) keeps.limits
  | inr (uncached, clean) ↦ beside_filtered a d pin goes (λ e. not (e.0 / per_page a.mapping == n / per_page a.mapping)) keeps.limits
      (ap (λ (z : MappingState). z.moved) clean
      ∙ followed_on (per_page a.mapping) (per_page m) n a.mapping.moved m.moved (ap entries s.limits.geometry) s.moved_but)
]
followed_beside (Translation t) at a d m pin goes keeps s f = beside_same a d pin goes (ap (λ (z : MappingState). z.moved) (f ∙ s)) keeps.limits
followed_beside (Table u) at a d m pin goes keeps s f = beside_same a d pin goes (ap (λ (z : MappingState). z.moved) (f ∙ s)) keeps.limits

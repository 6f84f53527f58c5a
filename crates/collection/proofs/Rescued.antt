-- What the words of a rescue and of a renewal come to.
use Rattle.std.proofs.Common.{◌≡◌, ◌≢◌, inl, inr, ℕ, ◌+◌, ◌*◌, ◌/◌, ◌%◌, ◌<◌, ◌≤◌, Bool, true, false, Option, Some, None, IsSome, refl, ap, sym, ◌∙◌, subst, arith}
use Rattle.std.specs.Map.{keys_of}
use Rattle.std.proofs.Math.Nat.{div-add-mod'}
use Rattle.std.proofs.lemmas.Bool.{cases_lt}
use Rattle.page_layout.specs.declared.geometry.Geometry.{Geometry}
use Rattle.page_layout.specs.declared.record.Key.{Key}
use Rattle.page_layout.specs.declared.record.Key.TheVariants.{Sector}
use Rattle.page_layout.specs.Page.{Image}
use Rattle.budget.specs.declared.stream.Stream.TheVariants.{Meta}
use Rattle.bad_blocks.specs.Table.{is_good_at}
use Rattle.mapping_cache.specs.Mapping.{MappingState, per_page, slot_of, cleaned}
use Rattle.collection.specs.State.{Ram}
use Rattle.collection.specs.Safe.{IsRam}
use Rattle.collection.specs.Pages.{newest_row}
use Rattle.collection.specs.Cost.{HasPut}
use Rattle.collection.specs.Live.{NotAt}
use Rattle.collection.specs.Settle.{SetsMapping}
use Rattle.collection.specs.Collect.{PutsBehind, IsFollowed, IsAiling, HasRescuedPage, LeavesLowest}
use Rattle.collection.specs.Renew.{HasNoneDue, IsRenewedAt}
use Rattle.collection.specs.Rescued.{LazyLaw, FollowedLaw, RescueLeavesOthersLaw, OneLowestLaw, OneRenewalLaw}
use Rattle.collection.proofs.Follows.{slot_by, some_or_none}
use Rattle.collection.proofs.Lowest.{some_pages}
use Rattle.collection.proofs.Rescues.{cached_behind}

-- ---- what is programmed behind a copy

module _ (old new : Ram) (rescued : HasRescuedPage old new) (n : ℕ) (is : rescued.copied.key ≡ Sector n) where
  keys : keys_of rescued.mid.mapping.cached ≡ keys_of old.mapping.cached
  keys = (let sets : SetsMapping (Sector n) rescued.copied.row old.mapping rescued.mid.mapping = subst (λ k. SetsMapping k rescued.copied.row old.mapping rescued.mid.mapping) is rescued.copied.sets in sets.keys)

  behind : PutsBehind (Sector n) rescued.mid new
  behind = subst (λ k. PutsBehind k rescued.mid new) is rescued.behind

  mapping : IsFollowed (Sector n) rescued.mid.mapping new.mapping
  mapping = subst (λ k. IsFollowed k rescued.mid.mapping new.mapping) is rescued.mapping

  lazy_by : IsSome (slot_of old.mapping n) → new ≡ rescued.mid
  lazy_by some = elim behind [
    | inl stays ↦ stays.1
    | inr put ↦ absurd (some_or_none (slot_of rescued.mid.mapping n) (slot_by old.mapping rescued.mid.mapping n keys some) put.0)
  ]

  uncached : slot_of old.mapping n ≡ None → IsSome (slot_of rescued.mid.mapping n) → ⊥
  uncached none some = some_or_none (slot_of old.mapping n) (slot_by rescued.mid.mapping old.mapping n (sym keys) some) none

  followed_by : slot_of old.mapping n ≡ None → HasPut Meta rescued.mid new × (new.mapping ≡ cleaned rescued.mid.mapping (n / per_page rescued.mid.mapping))
  followed_by none = (
    elim behind [ inl stays ↦ absurd (uncached none stays.0) | inr put ↦ put.1 ],
    elim mapping [ inl stays ↦ absurd (uncached none stays.0) | inr clean ↦ clean.1 ],
  )

pub lazy_law : LazyLaw
lazy_law old new rescued n is some = lazy_by old new rescued n is some

pub followed_law : FollowedLaw
followed_law old new rescued n is none = followed_by old new rescued n is none

pub alone_law : RescueLeavesOthersLaw
alone_law old before after rescued n is some other apart = rescued.others other apart (cached_behind rescued.key n old is some other)

-- ---- the page of lowest row

not_lower : (old : Ram) (before after other : Image) → IsRam old → (first : LeavesLowest old before after) (second : LeavesLowest old before other) → first.row < second.row → ⊥
not_lower old before after other s first second less =
    let pages : ℕ = old.geometry.pages in
    let some = some_pages old.geometry in
    let within : first.row / pages < old.geometry.blocks = subst (λ (g : Geometry). first.row / pages < g.blocks) s.blocks_of first.ailing.within in
    let at : first.row / pages * pages + first.row % pages ≡ first.row = div-add-mod' first.row pages in
    let lt : first.row % pages < pages = omega (arith, some) in
    let none : NotAt (first.row / pages * pages + first.row % pages) before = second.lowest (first.row / pages) (first.row % pages) within first.ailing.bad lt (omega (arith, at, less)) in
    none first.key (first.newest ∙ ap Some (sym at))

pub one_lowest : OneLowestLaw
one_lowest old before after other s first second = elim (cases_lt first.row second.row) [
  | inl less ↦ absurd (not_lower old before after other s first second less)
  | inr le ↦ elim (cases_lt second.row first.row) [ inl less ↦ absurd (not_lower old before other after s second first less) | inr ge ↦ omega (arith, le, ge) ]
]

-- ---- a renewal

pub one_answer : OneRenewalLaw
one_answer row old new new' before after after' true true x y = refl
one_answer row old new new' before after after' true false x y = absurd (y.0 x.key x.no_table x.due)
one_answer row old new new' before after after' false true x y = absurd (x.0 y.key y.no_table y.due)
one_answer row old new new' before after after' false false x y = refl

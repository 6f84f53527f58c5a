-- What the words of a rescue and of a renewal come to.
use Rattle.std.specs.Prelude.{◌≡◌, ◌≢◌, ℕ, ◌/◌, Bool, Some, None, IsSome}
use Rattle.page_layout.specs.declared.record.Key.{Key}
use Rattle.page_layout.specs.declared.record.Key.TheVariants.{Sector}
use Rattle.page_layout.specs.Page.{Image}
use Rattle.budget.specs.declared.stream.Stream.TheVariants.{Meta}
use Rattle.mapping_cache.specs.Mapping.{per_page, slot_of, cleaned}
use Rattle.collection.specs.State.{Ram}
use Rattle.collection.specs.Safe.{IsRam}
use Rattle.collection.specs.Pages.{newest_row}
use Rattle.collection.specs.Cost.{HasPut}
use Rattle.collection.specs.Collect.{HasRescuedPage, LeavesLowest}
use Rattle.collection.specs.Renew.{IsRenewedAt}

-- LAZY COPYING: behind a page of a cached sector nothing is programmed
abbrev pub LazyLaw : Type 0
LazyLaw = (old new : Ram) (rescued : HasRescuedPage old new) (n : ℕ) → rescued.copied.key ≡ Sector n → IsSome (slot_of old.mapping n) → new ≡ rescued.mid

-- behind one of another sector its translation page is, and lacks no row then
abbrev pub FollowedLaw : Type 0
FollowedLaw = (old new : Ram) (rescued : HasRescuedPage old new) (n : ℕ) → rescued.copied.key ≡ Sector n → slot_of old.mapping n ≡ None
    → HasPut Meta rescued.mid new × (new.mapping ≡ cleaned rescued.mid.mapping (n / per_page rescued.mid.mapping))

-- and so, in the image, a rescue of a cached sector's page leaves each other newest page where it is
abbrev pub RescueLeavesOthersLaw : Type 0
RescueLeavesOthersLaw = (old : Ram) (before after : Image) (rescued : LeavesLowest old before after) (n : ℕ) → rescued.key ≡ Sector n → IsSome (slot_of old.mapping n)
    → (other : Key) → newest_row before other ≢ Some rescued.row → newest_row after other ≡ newest_row before other

-- ONE PAGE IS THAT OF LOWEST ROW: two rescues from one memory and one image take the same
abbrev pub OneLowestLaw : Type 0
OneLowestLaw = (old : Ram) (before after other : Image) → IsRam old → (first : LeavesLowest old before after) (second : LeavesLowest old before other) → first.row ≡ second.row

-- A RENEWAL HAS ONE ANSWER: the row has a page that has to be copied, or it has none
abbrev pub OneRenewalLaw : Type 0
OneRenewalLaw = (row : ℕ) (old new new' : Ram) (before after after' : Image) (found found' : Bool)
    → IsRenewedAt row old before new after found → IsRenewedAt row old before new' after' found' → found ≡ found'

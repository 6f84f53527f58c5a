-- What becomes of a page that is neither erased nor sound, and that two bits turned make sound. One bit goes before two, and of several pairs none is
-- taken.
use Rattle.std.specs.Prelude.{◌≡◌, ◌↔◌, ℕ, ◌+◌, ◌-◌, ◌<◌, ◌≤◌, nat_le, true, false, ◌⊎◌, if◌then◌else◌, List, [], ◌∷◌, length, map, Option, Some, None, IsSome}
use Rattle.std.specs.List.{filter, flat_map, range_with_len}
use Rattle.page_layout.specs.Page.{Page}
use Rattle.page_layout.specs.Sound.{record_of}
use Rattle.page_layout.specs.Block.{is_broken}
use Rattle.lab_dump.specs.PageBytes.{is_sound, bit_count, page_bit}
use Rattle.lab_mend.specs.declared.mending.Turned.{Turned}
use Rattle.lab_mend.specs.declared.pairs.BitPair.{BitPair}
use Rattle.lab_mend.specs.declared.pairs.BitTurn.{BitTurn}
use Rattle.lab_mend.specs.declared.pairs.BitTurn.TheVariants.{One, Two, Tied, Nothing}
use Rattle.lab_mend.specs.declared.pairs.Seen.{Seen}
use Rattle.lab_mend.specs.declared.pairs.Seen.TheVariants.{Never, Once, Twice}
use Rattle.lab_mend.specs.Bits.{with_bit_turned, DiffersAt}
use Rattle.lab_mend.specs.Mend.{mend_of, IsMendedAs}
use Rattle.lab_mend.specs.Trial.{turned_count, HasBytes}

-- the bits behind bit k whose turning makes the page sound, by rising bit
unfoldable pub second_bits : Page → ℕ → List ℕ
second_bits p k = filter (λ l. is_sound (with_bit_turned p l)) (range_with_len (k + 1) (bit_count p - (k + 1)))

-- these bits, each with bit k
abbrev pub pairs_with : ℕ → List ℕ → List BitPair
pairs_with k bits = map (λ l. record { low = k; high = l }) bits

-- the pairs of bits whose turning makes the page sound, by rising lower bit
unfoldable pub sound_pairs : Page → List BitPair
sound_pairs p = flat_map (λ k. pairs_with k (second_bits (with_bit_turned p k) k)) (range_with_len 0 (bit_count p))

-- what these pairs come to: the one, where there is just one
abbrev pub by_pairs : List BitPair → BitTurn
by_pairs [] = Nothing
by_pairs (b ∷ []) = Two b
by_pairs (b ∷ c ∷ more) = Tied

-- what is turned of a broken page of which that one bit is turned, if there is one; where there is none, and two bits may be turned, two
abbrev pub one_or_two : ℕ → Page → Option Turned → Option BitTurn
one_or_two bits p (Some t) = Some (One t)
one_or_two bits p None = if nat_le 2 bits then Some (by_pairs (sound_pairs p)) else None

-- what is turned of a page of which so many bits may be turned
unfoldable pub page_turn_of : ℕ → Page → Option BitTurn
page_turn_of bits p = if is_broken p then one_or_two bits p (mend_of p) else None

-- the page with that turned
abbrev pub page_turned_by : Page → Option BitTurn → Page
page_turned_by p None = p
page_turned_by p (Some (One t)) = with_bit_turned p t.bit
page_turned_by p (Some (Two b)) = with_bit_turned (with_bit_turned p b.low) b.high
page_turned_by p (Some Tied) = p
page_turned_by p (Some Nothing) = p

-- the page with that turned back
abbrev pub turned_back : Page → Option BitTurn → Page
turned_back p None = p
turned_back p (Some (One t)) = with_bit_turned p t.bit
turned_back p (Some (Two b)) = with_bit_turned (with_bit_turned p b.high) b.low
turned_back p (Some Tied) = p
turned_back p (Some Nothing) = p

-- the repaired page
unfoldable pub repaired : ℕ → Page → Page
repaired bits p = page_turned_by p (page_turn_of bits p)

-- ---- while pairs are tried

-- what the pairs that were seen come to with these behind them
abbrev pub seen_with : Seen → List BitPair → BitTurn
seen_with Never more = by_pairs more
seen_with (Once b) more = by_pairs (b ∷ more)
seen_with Twice more = Tied

-- ---- laws

-- these two bits of the page, the lower first, make it sound
pub record MakeSound (p : Page) (k l : ℕ) : Type 0 where
  pub rising : k < l
  pub within : l < bit_count p
  pub sound : IsSome (record_of (with_bit_turned (with_bit_turned p k) l))

-- two pairs of bits make it sound
pub record HasTwoPairs (p : Page) : Type 0 where
  pub first : BitPair
  pub second : BitPair
  pub one : MakeSound p first.low first.high
  pub other : MakeSound p second.low second.high
  pub apart : ¬ (first ≡ second)

-- what is told of a broken page
abbrev pub TellsBitTurn : Page → BitTurn → Type 0
TellsBitTurn p (One t) = mend_of p ≡ Some t
TellsBitTurn p (Two b) = (mend_of p ≡ None) × MakeSound p b.low b.high × ((k l : ℕ) → MakeSound p k l → (k ≡ b.low) × (l ≡ b.high))
TellsBitTurn p Tied = (mend_of p ≡ None) × HasTwoPairs p
TellsBitTurn p Nothing = (mend_of p ≡ None) × ((k l : ℕ) → ¬ MakeSound p k l)

-- What is told is so: one bit goes before two, two are turned where they alone make the page sound, and where several do none is.
abbrev pub TurnLaw : Type 0
TurnLaw = (bits : ℕ) (p : Page) (t : BitTurn) → page_turn_of bits p ≡ Some t → (is_broken p ≡ true) × TellsBitTurn p t

-- the other page has areas of the same lengths, and differs in these two bits and in no other
pub record DiffersInTwo (p q : Page) (b : BitPair) : Type 0 where
  pub apart : b.low < b.high
  pub within : b.high < bit_count p
  pub body_size : length q.body ≡ length p.body
  pub spare_size : length q.spare ≡ length p.spare
  pub others : (j : ℕ) → (page_bit q j ≡ page_bit p j) ↔ (¬ (j ≡ b.low) × ¬ (j ≡ b.high))

-- the other page is sound, or erased, as the word says, and one bit away
pub record IsOneBitOff (p q : Page) : Type 0 where
  pub turn : Turned
  pub mend_is : mend_of p ≡ Some turn
  pub made : IsMendedAs turn.made q
  pub differs : DiffersAt p q turn.bit

-- the other page is sound, and two bits away
pub record AreTwoBitsOff (bits : ℕ) (p q : Page) : Type 0 where
  pub pair : BitPair
  pub turn_is : page_turn_of bits p ≡ Some (Two pair)
  pub sound : IsSome (record_of q)
  pub differs : DiffersInTwo p q pair

-- A repaired page is the page as it was, or sound and one bit away from it, or erased and one bit away, or sound and two bits away.
abbrev pub RepairedLaw : Type 0
RepairedLaw = (bits : ℕ) (p : Page) → (repaired bits p ≡ p) ⊎ IsOneBitOff p (repaired bits p) ⊎ AreTwoBitsOff bits p (repaired bits p)

-- No other sound page differs in two bits or in fewer from one of which two are turned.
abbrev pub OnlyLaw : Type 0
OnlyLaw = (bits : ℕ) (p q : Page) (b : BitPair) → page_turn_of bits p ≡ Some (Two b) → HasBytes p → HasBytes q → length q.body ≡ length p.body → length q.spare ≡ length p.spare
    → IsSome (record_of q) → turned_count p q ≤ 2 → q ≡ repaired bits p

-- A sound page and an erased one stay as they are.
abbrev pub UnbrokenStaysLaw : Type 0
UnbrokenStaysLaw = (bits : ℕ) (p : Page) → is_broken p ≡ false → repaired bits p ≡ p

-- A repaired page is repaired no further.
abbrev pub AgainLaw : Type 0
AgainLaw = (bits : ℕ) (p : Page) → repaired bits (repaired bits p) ≡ repaired bits p

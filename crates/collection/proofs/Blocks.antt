-- What an attempt to program makes of the blocks, whatever the die does.
use Rattle.std.proofs.Common.{◌≡◌, ◌≢◌, inl, inr, ℕ, ◌+◌, ◌-◌, ◌*◌, ◌/◌, ◌<◌, false, length, Option, Some, None, refl, ap, sym, ◌∙◌, subst, arith}
use Rattle.std.specs.Option.{ForSome}
use Rattle.std.proofs.lemmas.Bool.{cases_eq}
use Rattle.std.proofs.lemmas.Nat.{div-mul-add}
use Rattle.std.proofs.lemmas.List.{length-set}
use Rattle.bad_blocks.specs.Table.{is_good_at}
use Rattle.budget.specs.declared.stream.Stream.{Stream}
use Rattle.budget.specs.declared.stream.Stream.TheVariants.{Data, Meta}
use Rattle.budget.specs.Counts.{TakesOne, FailsOne}
use Rattle.allocation.specs.declared.fill.Fill.{Fill}
use Rattle.allocation.specs.State.{State, fill_at, pointer_at, live_at, free_count, AreBlocksSafe}
use Rattle.allocation.specs.Step.{IsNextBlock, TakesNextRow, taken, without, with_fill, with_live}
use Rattle.allocation.specs.Counts.{counts_of}
use Rattle.allocation.specs.Laws.{IsLeftButLive}
use Rattle.allocation.proofs.SafeLemmas.{fill_same, fill_other, safe_live, safe_taken, safe_without, good_retired}
use Rattle.allocation.proofs.TallyLemmas.{takes_one, failed}
use Rattle.allocation.proofs.OtherLemmas.{failed_others, taken_others, live_others, live_counts}
use Rattle.collection.specs.Cost.{one_live_less, moved_live}

-- ---- one block's numbers

pub safe_counted : (free : ℕ) (s : State) → AreBlocksSafe free s → AreBlocksSafe (free_count s) s
safe_counted free s w = record { table_whole = w.table_whole; fills_whole = w.fills_whole; pointers = w.pointers; free_is = refl; opened = w.opened; apart = w.apart }

taken_fill : (stream : Stream) (s : State) (b c : ℕ) → fill_at (taken stream b s) c ≡ fill_at (with_fill b (record { pointer = pointer_at s b + 1; live = live_at s b }) s) c
taken_fill Data s b c = refl
taken_fill Meta s b c = refl

pub taken_geometry : (stream : Stream) (s : State) (b : ℕ) → (taken stream b s).geometry ≡ s.geometry
taken_geometry Data s b = refl
taken_geometry Meta s b = refl

pub taken_table : (stream : Stream) (s : State) (b : ℕ) → (taken stream b s).table ≡ s.table
taken_table Data s b = refl
taken_table Meta s b = refl

pub taken_length : (stream : Stream) (s : State) (b : ℕ) → length (taken stream b s).fills ≡ length s.fills
taken_length Data s b = length-set s.fills b (record { pointer = pointer_at s b + 1; live = live_at s b })
taken_length Meta s b = length-set s.fills b (record { pointer = pointer_at s b + 1; live = live_at s b })

pub taken_pointer : (stream : Stream) (s : State) (b : ℕ) → b < length s.fills → pointer_at (taken stream b s) b ≡ pointer_at s b + 1
taken_pointer stream s b lt = ap (λ (f : Fill). f.pointer) (taken_fill stream s b b ∙ fill_same s b (record { pointer = pointer_at s b + 1; live = live_at s b }) lt)

pub taken_live : (stream : Stream) (s : State) (b c : ℕ) → b < length s.fills → live_at (taken stream b s) c ≡ live_at s c
taken_live stream s b c lt = elim (cases_eq c b) [
  | inl is ↦
      let at : live_at (taken stream b s) b ≡ live_at s b = ap (λ (f : Fill). f.live) (taken_fill stream s b b ∙ fill_same s b (record { pointer = pointer_at s b + 1; live = live_at s b }) lt) in
      ap (live_at (taken stream b s)) is ∙ at ∙ ap (live_at s) (sym is)
  | inr ne ↦ ap (λ (f : Fill). f.live) (taken_fill stream s b c ∙ fill_other s b c (record { pointer = pointer_at s b + 1; live = live_at s b }) ne)
]

pub live_here : (s : State) (b live : ℕ) → b < length s.fills → live_at (with_live b live s) b ≡ live
live_here s b live lt = ap (λ (f : Fill). f.live) (fill_same s b (record { pointer = pointer_at s b; live = live }) lt)

pub live_there : (s : State) (b c live : ℕ) → c ≢ b → live_at (with_live b live s) c ≡ live_at s c
live_there s b c live ne = ap (λ (f : Fill). f.live) (fill_other s b c (record { pointer = pointer_at s b; live = live }) ne)

-- ---- the block that is programmed next

-- a row was taken: the block's next one
pub record IsTaken (stream : Stream) (block row : ℕ) (old new : State) : Type 0 where
  pub next : IsNextBlock old stream block
  pub row_is : row ≡ block * old.geometry.pages + pointer_at old block
  pub left : new ≡ taken stream block old

pub taken_at : (stream : Stream) (row block : ℕ) (old new : State) → TakesNextRow stream row old new → block ≡ row / old.geometry.pages → IsTaken stream block row old new
taken_at stream row block old new t is =
    let same : t.block ≡ block = sym (div-mul-add t.block old.geometry.pages (pointer_at old t.block) t.next.room) ∙ (ap (λ k. k / old.geometry.pages) (sym t.row_is) ∙ sym is) in
    subst (λ b. IsTaken stream b row old new) same (record { next = t.next; row_is = t.row_is; left = t.left })

pub block_of_taken : (stream : Stream) (block row : ℕ) (old new : State) → IsTaken stream block row old new → row / old.geometry.pages ≡ block
block_of_taken stream block row old new t = ap (λ k. k / old.geometry.pages) t.row_is ∙ div-mul-add block old.geometry.pages (pointer_at old block) t.next.room

-- ---- what is made of the blocks

-- one block alone was touched
pub record IsMade (block : ℕ) (old new : State) : Type 0 where
  pub geometry : new.geometry ≡ old.geometry
  pub safe : AreBlocksSafe (free_count new) new
  pub others : (c : ℕ) → c ≢ block → IsLeftButLive old new c

pub left_then : (a b c : State) (k : ℕ) → IsLeftButLive a b k → IsLeftButLive b c k → IsLeftButLive a c k
left_then a b c k x y = record { row = y.row ∙ x.row; pointer = y.pointer ∙ x.pointer; closed = y.closed ∙ x.closed }

pub made_taken : (free : ℕ) (stream : Stream) (block : ℕ) (s : State) → AreBlocksSafe free s → IsNextBlock s stream block → IsMade block s (taken stream block s)
made_taken free stream block s safe next = record {
  geometry = taken_geometry stream s block;
  safe = safe_counted _ (taken stream block s) (safe_taken free s stream block next safe);
  others = λ c ne. (let o = taken_others s stream block c next ne in record { row = o.row; pointer = o.pointer; closed = o.closed });
}

pub made_failed : (free : ℕ) (stream : Stream) (block : ℕ) (s : State) → AreBlocksSafe free s → IsNextBlock s stream block → IsMade block s (without block (taken stream block s))
made_failed free stream block s safe next =
    let t : State = taken stream block s in
    let made : IsMade block s t = made_taken free stream block s safe next in
    let within : block < t.geometry.blocks = rw (taken_geometry stream s block) next.within in
    record {
      geometry = taken_geometry stream s block;
      safe = safe_counted _ (without block t) (safe_without (free_count t) t block within made.safe);
      others = λ c ne. left_then s t (without block t) c (made.others c ne) (let o = failed_others t block c ne in record { row = o.row; pointer = o.pointer; closed = o.closed });
    }

less_safe : (o : Option ℕ) (s : State) → ForSome o (λ r. r / s.geometry.pages < s.geometry.blocks) → AreBlocksSafe (free_count s) s → AreBlocksSafe (free_count s) (one_live_less o s)
less_safe None s within safe = safe
less_safe (Some row) s within safe = safe_live (free_count s) s (row / s.geometry.pages) (live_at s (row / s.geometry.pages) - 1) (within row refl) safe

less_geometry : (o : Option ℕ) (s : State) → (one_live_less o s).geometry ≡ s.geometry
less_geometry None s = refl
less_geometry (Some row) s = refl

less_others : (o : Option ℕ) (s : State) (c : ℕ) → AreBlocksSafe (free_count s) s → IsLeftButLive s (one_live_less o s) c
less_others None s c safe = record { row = refl; pointer = refl; closed = refl }
less_others (Some row) s c safe = live_others s (free_count s) (row / s.geometry.pages) (live_at s (row / s.geometry.pages) - 1) c safe

less_counts : (o : Option ℕ) (s : State) → ForSome o (λ r. r / s.geometry.pages < s.geometry.blocks) → AreBlocksSafe (free_count s) s → counts_of (one_live_less o s) ≡ counts_of s
less_counts None s within safe = refl
less_counts (Some row) s within safe = live_counts (free_count s) s (row / s.geometry.pages) (live_at s (row / s.geometry.pages) - 1) (within row refl) safe

module _ (o : Option ℕ) (block : ℕ) (s : State) (is_block : block < s.geometry.blocks) (within : ForSome o (λ r. r / s.geometry.pages < s.geometry.blocks)) (safe : AreBlocksSafe (free_count s) s) where
  less_block : block < (one_live_less o s).geometry.blocks
  less_block = rw (less_geometry o s) is_block

  pub moved_geometry : (moved_live o block s).geometry ≡ s.geometry
  moved_geometry = less_geometry o s

  pub moved_safe : AreBlocksSafe (free_count s) (moved_live o block s)
  moved_safe = safe_live (free_count s) (one_live_less o s) block _ less_block (less_safe o s within safe)

  pub moved_others : (c : ℕ) → IsLeftButLive s (moved_live o block s) c
  moved_others c = left_then s (one_live_less o s) (moved_live o block s) c (less_others o s c safe) (live_others (one_live_less o s) (free_count s) block _ c (less_safe o s within safe))

  pub moved_counts : counts_of (moved_live o block s) ≡ counts_of s
  moved_counts = live_counts (free_count s) (one_live_less o s) block _ less_block (less_safe o s within safe) ∙ less_counts o s within safe

pub made_passed : (free : ℕ) (stream : Stream) (block : ℕ) (s : State) (o : Option ℕ) → AreBlocksSafe free s → IsNextBlock s stream block → ForSome o (λ r. r / s.geometry.pages < s.geometry.blocks) → IsMade block s (moved_live o block (taken stream block s))
made_passed free stream block s o safe next within =
    let t : State = taken stream block s in
    let same : t.geometry ≡ s.geometry = taken_geometry stream s block in
    let made : IsMade block s t = made_taken free stream block s safe next in
    let is_block : block < t.geometry.blocks = rw same next.within in
    let inside : ForSome o (λ r. r / t.geometry.pages < t.geometry.blocks) = λ r is. rw same (within r is) in
    record {
      geometry = moved_geometry o block t is_block inside made.safe ∙ same;
      safe = safe_counted (free_count t) (moved_live o block t) (moved_safe o block t is_block inside made.safe);
      others = λ c ne. left_then s t (moved_live o block t) c (made.others c ne) (moved_others o block t is_block inside made.safe c);
    }

-- the pointer of the block has moved on
pub moved_pointer : (free : ℕ) (stream : Stream) (block : ℕ) (s : State) (o : Option ℕ) → AreBlocksSafe free s → IsNextBlock s stream block → ForSome o (λ r. r / s.geometry.pages < s.geometry.blocks) → pointer_at (moved_live o block (taken stream block s)) block ≡ pointer_at s block + 1
moved_pointer free stream block s o safe next within =
    let t : State = taken stream block s in
    let same : t.geometry ≡ s.geometry = taken_geometry stream s block in
    let made : IsMade block s t = made_taken free stream block s safe next in
    let is_block : block < t.geometry.blocks = rw same next.within in
    let inside : ForSome o (λ r. r / t.geometry.pages < t.geometry.blocks) = λ r is. rw same (within r is) in
    (moved_others o block t is_block inside made.safe block).pointer ∙ taken_pointer stream s block (omega (arith, safe.fills_whole, next.within))

-- a block that failed is bad
pub failed_bad : (free : ℕ) (stream : Stream) (block : ℕ) (s : State) → AreBlocksSafe free s → IsNextBlock s stream block → is_good_at (without block (taken stream block s)).table block ≡ false
failed_bad free stream block s safe next =
    let lt : block < length (taken stream block s).table = rw (taken_table stream s block) (let x = safe.table_whole in let y = next.within in (let z : block < length s.table = omega arith in z)) in
    good_retired (taken stream block s).table block lt

-- ---- what is counted

pub counts_failed : (free : ℕ) (stream : Stream) (block : ℕ) (s : State) → AreBlocksSafe free s → IsNextBlock s stream block → FailsOne stream (counts_of s) (counts_of (without block (taken stream block s)))
counts_failed free stream block s safe next = failed free s stream block safe next

pub counts_passed : (free : ℕ) (stream : Stream) (block : ℕ) (s : State) (o : Option ℕ) → AreBlocksSafe free s → IsNextBlock s stream block
    → ForSome o (λ r. r / s.geometry.pages < s.geometry.blocks)
    → TakesOne stream s.geometry.pages (counts_of s) (counts_of (moved_live o block (taken stream block s)))
counts_passed free stream block s o safe next within =
    let t : State = taken stream block s in
    let same : t.geometry ≡ s.geometry = taken_geometry stream s block in
    let made : IsMade block s t = made_taken free stream block s safe next in
    let is_block : block < t.geometry.blocks = rw same next.within in
    let inside : ForSome o (λ r. r / t.geometry.pages < t.geometry.blocks) = λ r is. rw same (within r is) in
    rw (moved_counts o block t is_block inside made.safe) (takes_one free s stream block safe next)

-- What an attempt to program makes of the memory, whatever the die does.
use Rattle.std.proofs.Common.{◌≡◌, ◌≢◌, ℕ, ◌+◌, ◌*◌, ◌/◌, ◌<◌, ◌≤◌, ◌^◌, ◌||◌, not, Bool, true, false, length, Option, Some, refl, ap, sym, ◌∙◌, subst, arith}
use Rattle.std.specs.Option.{IfSome}
use Rattle.page_layout.proofs.GeometryLemmas.{row_within}
use Rattle.page_layout.specs.declared.geometry.Geometry.{Geometry}
use Rattle.page_layout.specs.Geometry.{translation_pages, table_pages, row_count}
use Rattle.bad_blocks.specs.declared.table.TableRow.{TableRow}
use Rattle.bad_blocks.specs.Table.{is_good, is_good_at, good_count}
use Rattle.mapping_cache.specs.Mapping.{moved_room}
use Rattle.budget.specs.declared.stream.Stream.{Stream}
use Rattle.allocation.specs.State as blocks
use Rattle.allocation.specs.State.{State, pointer_at, is_closed, free_count}
use Rattle.allocation.specs.Step.{IsNextBlock}
use Rattle.allocation.specs.Laws.{IsLeftButLive}
use Rattle.allocation.proofs.OtherLemmas.{next_not_closed}
use Rattle.collection.specs.State.{Ram, Pin}
use Rattle.collection.specs.Safe.{IsRam, IsOutside, is_shut}
use Rattle.collection.specs.Results.{Goes, GoesPut, KeepsTable}
use Rattle.collection.specs.Collect.{waiting}
use Rattle.collection.proofs.Blocks.{IsMade, IsTaken, block_of_taken, left_then}

-- as many sectors are moved, at most, as a block has pages
pub moved_places : (r : Ram) → IsRam r → moved_room r.mapping.geometry r.mapping.share ≡ waiting r + r.geometry.pages
moved_places r s = rw s.mapping_of refl

pub few_moved : (r : Ram) → IsRam r → length r.mapping.moved ≤ waiting r + r.geometry.pages
few_moved r s = let within = s.mapping.moved_within in let room = moved_places r s in omega arith

-- what no attempt changes, and the next sequence
pub record Ticks (old new : Ram) : Type 0 where
  pub geometry : new.geometry ≡ old.geometry
  pub directory : new.directory ≡ old.directory
  pub mapping : new.mapping ≡ old.mapping
  pub next : new.next ≡ old.next + 1
  pub pin : new.pin ≡ old.pin

-- ---- bad and closed blocks

pub shut_same : (a b : State) (k : ℕ) → IsLeftButLive a b k → is_shut b k ≡ is_shut a k
shut_same a b k l = ap (λ (r : TableRow). not (is_good r) || is_closed b k) l.row ∙ ap (λ c. not (is_good_at a.table k) || c) l.closed

-- the block that is programmed next is neither
pub next_not_shut : (s : State) (stream : Stream) (block : ℕ) → blocks.AreBlocksSafe (free_count s) s → IsNextBlock s stream block → is_shut s block ≡ false
next_not_shut s stream block safe next =
    let closed : is_closed s block ≡ false = next_not_closed (free_count s) s stream block safe next in
    ap (λ g. not g || is_closed s block) next.good ∙ closed

pub apart_from_next : (s : State) (stream : Stream) (block b : ℕ) → blocks.AreBlocksSafe (free_count s) s → IsNextBlock s stream block → is_shut s b ≡ true → b ≢ block
apart_from_next s stream block b safe next is same =
    let e : is_shut s block ≡ true = ap (is_shut s) (sym same) ∙ is in
    let f : is_shut s block ≡ false = next_not_shut s stream block safe next in
    let no : true ≡ false = sym e ∙ f in cc

-- ---- the table

pub table_kept : (a b : State) → b.table ≡ a.table → KeepsTable a b
table_kept a b same = record { fewer = (let e : good_count b.table ≡ good_count a.table = ap good_count same in omega arith); same = λ as_many. same }

pub table_failed : (a b : State) → good_count a.table ≡ good_count b.table + 1 → KeepsTable a b
table_failed a b one = record { fewer = omega arith; same = λ as_many. absurd (omega arith) }

pub table_then : (a b c : State) → KeepsTable a b → KeepsTable b c → KeepsTable a c
table_then a b c x y = record {
  fewer = omega (arith, x.fewer, y.fewer);
  same = λ as_many. y.same (omega (arith, x.fewer, y.fewer)) ∙ x.same (omega (arith, x.fewer, y.fewer));
}

-- ---- an attempt

pub made_ram : (block : ℕ) (old new : Ram) → IsRam old → Ticks old new → IsMade block old.blocks new.blocks → old.next + 1 < 2 ^ 64 → IsRam new
made_ram block old new s t m next = record {
  directory = ap length t.directory ∙ (s.directory ∙ ap (λ g. translation_pages g + table_pages g) (sym t.geometry));
  directory_rows = rw (t.directory, t.geometry) s.directory_rows;
  mapping = rw t.mapping s.mapping;
  mapping_of = rw (t.mapping, t.geometry) s.mapping_of;
  blocks = m.safe;
  blocks_of = m.geometry ∙ (s.blocks_of ∙ sym t.geometry);
  next = omega (arith, t.next);
  marks = ap (λ (p : Pin). length p.marks) t.pin ∙ (s.marks ∙ ap translation_pages (sym t.geometry));
}

pub made_goes : (stream : Stream) (block : ℕ) (old new : Ram) → IsRam old → Ticks old new → IsNextBlock old.blocks stream block → IsMade block old.blocks new.blocks → KeepsTable old.blocks new.blocks → GoesPut old new
made_goes stream block old new s t n m k = record {
  table = k;
  goes = record {
    geometry = t.geometry;
    next = omega (arith, t.next);
    shut = λ b within is. m.others b (apart_from_next old.blocks stream block b s.blocks n is);
  };
  directory = t.directory;
  mapping = t.mapping;
  pin = t.pin;
}

pub taken_outside : (stream : Stream) (block row : ℕ) (r : Ram) (t : State) → IsRam r → IsTaken stream block row r.blocks t → IsOutside r row
taken_outside stream block row r t s is =
    let b : row / r.geometry.pages ≡ block = ap (λ g. row / g.pages) (sym s.blocks_of) ∙ block_of_taken stream block row r.blocks t is in
    record {
      within = (let P : Geometry → Type 0 = λ g. row < row_count g in subst P s.blocks_of (let e : row ≡ block * r.blocks.geometry.pages + pointer_at r.blocks block = is.row_is in rw e (row_within r.blocks.geometry block (pointer_at r.blocks block) is.next.within is.next.room)));
      outside = ap (is_shut r.blocks) b ∙ next_not_shut r.blocks stream block s.blocks is.next;
    }

-- ---- one after another

pub goes_same : (r : Ram) → Goes r r
goes_same r = record { geometry = refl; next = omega arith; shut = λ b within is. record { row = refl; pointer = refl; closed = refl } }

pub goes_then : (a b c : Ram) → Goes a b → Goes b c → Goes a c
goes_then a b c x y = record {
  geometry = y.geometry ∙ x.geometry;
  next = omega (arith, x.next, y.next);
  shut = λ k within is.
      let first : IsLeftButLive a.blocks b.blocks k = x.shut k within is in
      let w : k < b.geometry.blocks = rw x.geometry within in
      left_then a.blocks b.blocks c.blocks k first (y.shut k w (shut_same a.blocks b.blocks k first ∙ is));
}

pub put_same : (r : Ram) → GoesPut r r
put_same r = record { goes = goes_same r; table = table_kept r.blocks r.blocks refl; directory = refl; mapping = refl; pin = refl }

pub put_then : (a b c : Ram) → GoesPut a b → GoesPut b c → GoesPut a c
put_then a b c x y = record { goes = goes_then a b c x.goes y.goes; table = table_then a.blocks b.blocks c.blocks x.table y.table; directory = y.directory ∙ x.directory; mapping = y.mapping ∙ x.mapping; pin = y.pin ∙ x.pin }

-- a row of the later call is outside of what was bad or closed before the earlier one
pub shut_row : (a b : Ram) (k : ℕ) → Goes a b → k < a.geometry.blocks → is_shut b.blocks k ≡ false → is_shut a.blocks k ≡ false
shut_row a b k goes within is = at (is_shut a.blocks k) refl
  where
    at : (v : Bool) → is_shut a.blocks k ≡ v → v ≡ false
    at false e = refl
    at true e = (let no : true ≡ false = sym (shut_same a.blocks b.blocks k (goes.shut k within e) ∙ e) ∙ is in cc)

pub outside_some : (r : Ram) (row : ℕ) (o : Option ℕ) → IfSome o (IsOutside r) → o ≡ Some row → IsOutside r row
outside_some r row o all is = (let P : Option ℕ → Type 0 = λ v. IfSome v (IsOutside r) in subst P is all)

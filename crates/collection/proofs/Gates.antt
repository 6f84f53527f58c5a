-- A fault that is noted changes nothing else that is known.
use Rattle.std.proofs.Common.{◌≡◌, ℕ, ◌<◌, List, slice_get, Option, Some, None, IsSome, Result, Ok, Err, MatchResult, refl, ap, sym, ◌∙◌}
use Rattle.std.specs.Option.{ForSome}
use Rattle.page_layout.specs.declared.record.Kind.{Kind}
use Rattle.page_layout.specs.declared.record.Key.{Key}
use Rattle.page_layout.specs.declared.record.Key.TheVariants.{Sector}
use Rattle.page_layout.specs.Page.{Image}
use Rattle.page_layout.specs.Key.{key_from}
use Rattle.page_layout.specs.Geometry.{row_count}
use Rattle.page_layout.specs.Live.{IsKeyOf}
use Rattle.page_layout.specs.Flash.{Flash}
use Rattle.page_layout.specs.Recording.{Recording}
use Rattle.budget.specs.declared.stream.Stream.{Stream}
use Rattle.mapping_cache.specs.Mapping.{MappingState, known, slot_of, moved_row, known_by}
use Rattle.mapping_cache.specs.declared.slot.Slot.{Slot}
use Rattle.collection.specs.declared.fault.EngineFault.{EngineFault}
use Rattle.collection.specs.declared.fault.EngineFault.TheVariants.{ReadOnly, SequenceSpent, Damaged, Bus}
use Rattle.collection.specs.State.{Ram}
use Rattle.collection.specs.Pages.{directory_place, newest_row}
use Rattle.collection.specs.Truth.{IsTrue}
use Rattle.collection.specs.Safe.{IsRam}
use Rattle.collection.specs.Cost.{HasTried, PutCosts}
use Rattle.collection.specs.Log.{Went}
use Rattle.collection.specs.Results.{IsPut, IsSame, Refused, Goes, GoesPut}
use Rattle.collection.proofs.MapLemmas.{none_not}

-- ---- the fault is in none of the facts

module _ (fault : Option EngineFault) where
  with_fault : Ram → Ram
  with_fault r = record r { fault = fault }

  pub ram_noted : (r : Ram) → IsRam r → IsRam (record r { fault = fault })
  ram_noted r s = record { directory = s.directory; directory_rows = s.directory_rows; mapping = s.mapping; mapping_of = s.mapping_of; blocks = s.blocks; blocks_of = s.blocks_of; next = s.next; marks = s.marks }

  pub true_noted : (but : Option Key) (r : Ram) (image : Image) → IsTrue but r image → IsTrue but (record r { fault = fault }) image
  true_noted but r image w = record { whole = w.whole; one = w.one; below = w.below; filled = w.filled; live = w.live; worn = w.worn; tables = w.tables; maps = w.maps }

  pub goes_noted : (a b : Ram) → Goes a b → Goes a (record b { fault = fault })
  goes_noted a b x = record { geometry = x.geometry; next = x.next; shut = x.shut }

  pub goes_put_noted : (a b : Ram) → GoesPut a b → GoesPut a (record b { fault = fault })
  goes_put_noted a b x = record { goes = goes_noted a b x.goes; table = x.table; directory = x.directory; mapping = x.mapping; pin = x.pin }

  pub went_noted : (a b : Ram) (x y : Flash) (told told' : Option Recording) → Went a x told b y told' → Went a x told (record b { fault = fault }) y told'
  went_noted a b x y told told' w = record { log = w.log; leads = w.leads; records = w.records; follows = w.follows; next = w.next; wears = w.wears; numbers = w.numbers }

  pub same_noted : (a b : Ram) (x y : Image) → IsSame a x b y → IsSame a x (record b { fault = fault }) y
  same_noted a b x y k = record { truth = true_noted None b y k.truth; array = k.array; leaves = k.leaves }

  pub refused_noted : (a b : Ram) (x y : Image) (f : EngineFault) → Refused a x b y f → Refused a x (record b { fault = fault }) y f
  refused_noted a b x y ReadOnly k = same_noted a b x y k
  refused_noted a b x y SequenceSpent k = same_noted a b x y k
  refused_noted a b x y Damaged k = k
  refused_noted a b x y Bus k = tt

  pub is_put_noted : (kind : Kind) (n row : ℕ) (body : List ℕ) (a b : Ram) (x y : Image) → IsPut kind n row body a x b y → IsPut kind n row body a x (record b { fault = fault }) y
  is_put_noted kind n row body a b x y p = record { truth = true_noted (Some (key_from kind n)) b y p.truth; writes = p.writes }

  tried_noted : (stream : Stream) (a b : Ram) → HasTried stream a b → HasTried stream a (record b { fault = fault })
  tried_noted stream a b h = record { failures = h.failures; tries = h.tries; next = h.next }

  pub costs_noted : (stream : Stream) (a b : Ram) (result : Result ℕ EngineFault) → PutCosts stream a b result → PutCosts stream a (record b { fault = fault }) result
  costs_noted stream a b (Ok row) h = record { failures = h.failures; put = h.put; next = h.next }
  costs_noted stream a b (Err ReadOnly) h = record { failures = h.failures; found = h.found; none = h.none; next = h.next; sequence = h.sequence }
  costs_noted stream a b (Err SequenceSpent) h = record { tried = tried_noted stream a b h.tried; last = h.last }
  costs_noted stream a b (Err Damaged) h = h
  costs_noted stream a b (Err Bus) h = tt

  pub result_noted : (kind : Kind) (n : ℕ) (body : List ℕ) (a b : Ram) (x y : Image) (result : Result ℕ EngineFault)
      → MatchResult result (λ row. IsPut kind n row body a x b y) (Refused a x b y)
      → MatchResult result (λ row. IsPut kind n row body a x (record b { fault = fault }) y) (Refused a x (record b { fault = fault }) y)
  result_noted kind n body a b x y (Ok row) p = is_put_noted kind n row body a b x y p
  result_noted kind n body a b x y (Err f) k = refused_noted a b x y f k

-- ---- the row so far of a key

known_some : (slot : Option Slot) (row : Option ℕ) → IsSome slot → known_by slot row ≡ None → ⊥
known_some None row some e = (let no : ⊥ = cc in no)
known_some (Some s) None some e = (let no : ⊥ = cc in no)
known_some (Some s) (Some r) some e = (let no : ⊥ = cc in no)

cached_known : (m : MappingState) (n : ℕ) → IsSome (slot_of m n) → known m n ≡ None → ⊥
unfolding known
cached_known m n some e = known_some (slot_of m n) (moved_row m n) some e

-- what a look at the mapping tells of a cached sector
pub row_of_cached : (r : Ram) (image : Image) (n : ℕ) (found : Option (Option ℕ)) (row : Option ℕ) → IsTrue None r image → IsSome (slot_of r.mapping n) → found ≡ known r.mapping n → ((x : Option ℕ) → found ≡ Some x → row ≡ x) → row ≡ newest_row image (Sector n)
row_of_cached r image n None row w some is at = absurd (cached_known r.mapping n some (sym is))
row_of_cached r image n (Some x) row w some is at = at x refl ∙ w.maps.known_is n x (none_not (Sector n)) (sym is)

-- what a look at the directory tells
pub row_of_place : (r : Ram) (image : Image) (key : Key) (at : ℕ) (row : Option ℕ) → IsTrue None r image → IsKeyOf r.geometry key → directory_place r.geometry key ≡ Some at → slice_get r.directory at ≡ Some row → row ≡ newest_row image key
row_of_place r image key at row w of_key place is = (let e : slice_get r.directory at ≡ Some (newest_row image key) = w.maps.directory_is key at of_key (none_not key) place in let same : row ≡ newest_row image key = cc in same)

pub row_in_range : (r : Ram) (at : ℕ) (row : Option ℕ) → IsRam r → slice_get r.directory at ≡ Some row → ForSome row (λ q. q < row_count r.geometry)
row_in_range r at row s is = λ q e. s.directory_rows at q (is ∙ ap Some e)

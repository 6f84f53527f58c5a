-- One step of a collection after another.
use Rattle.std.proofs.Common.{◌≡◌, inl, inr, ℕ, suc, ◌/◌, ◌<◌, ◌==◌, ◌&&◌, ◌||◌, Bool, true, false, not, List, [], ◌∷◌, length, replicate, get_or}
use Rattle.std.proofs.Common.{Option, Some, None, refl, ap, sym, ◌∙◌, subst, arith}
use Rattle.std.specs.Map.{lookup}
use Rattle.std.proofs.lemmas.Bool.{eq-eqb}
use Rattle.page_layout.specs.declared.geometry.Geometry.{Geometry}
use Rattle.page_layout.specs.declared.record.Key.{Key}
use Rattle.page_layout.specs.declared.record.Record.{Record}
use Rattle.page_layout.specs.Page.{Image}
use Rattle.page_layout.specs.Live.{live, keys, is_in_block}
use Rattle.page_layout.specs.Array.{marks}
use Rattle.page_layout.specs.Geometry.{translation_pages, entries}
use Rattle.page_layout.specs.Change.{HoldsNone}
use Rattle.page_layout.specs.Newest.{newest}
use Rattle.page_layout.proofs.CountLemmas.{count_by_none}
use Rattle.page_layout.proofs.GeometryLemmas.{sector_entry}
use Rattle.std.proofs.lemmas.Bool.{ne_eqb}
use Rattle.mapping_cache.specs.Mapping.{MappingState, IsEntryOf, known, known_by, slot_of, moved_row, moved_in, per_page}
use Rattle.allocation.specs.State.{live_at, is_closed}
use Rattle.collection.specs.State.{Ram}
use Rattle.collection.specs.Safe.{IsRam, IsIdle, is_shut}
use Rattle.collection.specs.Truth.{IsTrue}
use Rattle.collection.specs.Live.{HoldsNoneIn, FindsFirst}
use Rattle.collection.specs.declared.fault.EngineFault.{EngineFault}
use Rattle.collection.specs.declared.fault.EngineFault.TheVariants.{Bus}
use Rattle.collection.specs.Results.{IsSame, IsImageKept, LeavesNewest, Goes, Refused}
use Rattle.collection.specs.Collect.{has_moved, is_due, OwesNone, GoesBut, IsEmptied, IsCopiedOr, HasErased, FaultCosts, Refreshes}
use Rattle.collection.proofs.Puts.{same_then, same_kept, refused_then}
use Rattle.collection.proofs.Copies.{exact_at}
use Rattle.collection.proofs.Dues.{erased_refreshes}
use Rattle.collection.proofs.Costs.{err_as}
use Rattle.collection.proofs.Lowest.{copied_none, shut_closed}

pub goes_but : (block : ℕ) (a b : Ram) → Goes a b → GoesBut block a b
goes_but block a b g = record { geometry = g.geometry; next = g.next; shut = λ k w ne is. g.shut k w is }

-- a fact of a memory that is as it was
pub at_start : (P : Ram → Type 0) (a b : Ram) → b ≡ a → P b → P a
at_start P a b same p = subst P same p

-- a fault of one answer is another's
pub err_same : {A B : Type 0} (f h : EngineFault) → err_as A f ≡ err_as A h → err_as B f ≡ err_as B h
err_same {A} {B} f h e = (let same : f ≡ h = cc in ap (err_as B) same)

pub found_none : (block : ℕ) (r r1 : Ram) (x x1 : Image) (o : Option ℕ) → IsCopiedOr block r x r1 x1 o → o ≡ None → IsSame r x r1 x1 × HoldsNone r.geometry.pages block x1
found_none block r r1 x x1 o c is = (let P : Option ℕ → Type 0 = λ v. IsCopiedOr block r x r1 x1 v in subst P is c)

-- ---- no newest page

zero_live : (g : Geometry) (image : Image) (block : ℕ) → HoldsNone g.pages block image → live g (marks image) block ≡ 0
unfolding live
zero_live g image block h = count_by_none (λ key. is_in_block g.pages block (newest (marks image) key)) (keys g) (λ key. at key (newest (marks image) key) refl)
  where
    at : (key : Key) (o : Option ℕ) → newest (marks image) key ≡ o → is_in_block g.pages block o ≡ false
    at key None is = refl
    at key (Some row) is = ne_eqb (row / g.pages) block (h.none key row is)

pub live_none : (r : Ram) (image : Image) (block : ℕ) → IsRam r → IsTrue None r image → block < r.geometry.blocks → HoldsNone r.geometry.pages block image → live_at r.blocks block ≡ 0
live_none r image block s w lt h = exact_at r image block s w lt ∙ zero_live r.geometry image block h

-- a look that finds none, from a page on before which there is none: so none is counted
pub none_counted : (r r1 : Ram) (x x1 : Image) (block first : ℕ) (live : Option (ℕ × Record)) (body : List ℕ) → IsRam r → IsTrue None r x → block < r.geometry.blocks → r1 ≡ r → x1 ≡ x
    → HoldsNoneIn r.geometry.pages block 0 first x → FindsFirst r.geometry.pages block first body x live → live ≡ None → live_at r.blocks block ≡ 0
none_counted r r1 x x1 block first live body s w lt same still none finds is =
    let gone : HoldsNone r.geometry.pages block x1 = (copied_none r r1 x x1 block first live body w same still none finds is).1 in
    live_none r x block s w lt (subst (λ (z : Image). HoldsNone r.geometry.pages block z) still gone)

pub hold_leaves : (r : Ram) (x y : Image) (block : ℕ) → is_shut r.blocks block ≡ true → HoldsNone r.geometry.pages block x → LeavesNewest r x y → HoldsNone r.geometry.pages block y
hold_leaves r x y block shut h l = record {
  none = λ key row is in_block. elim (l.each key) [
    | inl stayed ↦ h.none key row (sym stayed ∙ is) in_block
    | inr out ↦
        let unshut : is_shut r.blocks block ≡ false = ap (is_shut r.blocks) (sym in_block) ∙ out row is in
        let no : true ≡ false = sym shut ∙ unshut in
        let never : ⊥ = cc in never
  ];
}

-- ---- after a look that found nothing to copy

module _ (block : ℕ) (r r1 : Ram) (x x1 : Image) (same : r1 ≡ r) (goes : Goes r r1) (closed : is_closed r.blocks block ≡ true) (within : block < r.geometry.blocks) (first : IsSame r x r1 x1 × HoldsNone r.geometry.pages block x1) where
  pub none_now : HoldsNone r1.geometry.pages block x1
  none_now = rw same first.1

  -- a translation page was written
  pub emptied_written : (r2 : Ram) (x2 : Image) → IsRam r2 → r2.geometry ≡ r1.geometry → IsSame r1 x1 r2 x2 → IsEmptied block r x r2 x2
  emptied_written r2 x2 s2 after k =
      let h : HoldsNone r1.geometry.pages block x2 = hold_leaves r1 x1 x2 block (rw same (shut_closed r.blocks block closed)) none_now k.leaves in
      let g : r2.geometry ≡ r.geometry = after ∙ ap (λ (z : Ram). z.geometry) same in
      record {
        same = same_then r r1 r2 x x1 x2 goes after first.0 k;
        none = live_none r2 x2 block s2 k.truth (rw g within) (let P : Geometry → Type 0 = λ y. HoldsNone y.pages block x2 in subst P (sym after) h);
      }

  -- the block was erased
  pub emptied_erased : (r3 : Ram) (x3 : Image) → IsRam r3 → r3.geometry ≡ r1.geometry → IsImageKept r1 x1 r3 x3 → IsEmptied block r x r3 x3
  emptied_erased r3 x3 s3 after k =
      let h : HoldsNone r1.geometry.pages block x3 = record { none = λ key row is. none_now.none key row (sym (k.keeps.newest_same key) ∙ is) } in
      let g : r3.geometry ≡ r.geometry = after ∙ ap (λ (z : Ram). z.geometry) same in
      record {
        same = same_then r r1 r3 x x1 x3 goes after first.0 (same_kept r1 r3 x1 x3 k);
        none = live_none r3 x3 block s3 k.truth (rw g within) (let P : Geometry → Type 0 = λ y. HoldsNone y.pages block x3 in subst P (sym after) h);
      }

  pub refused_written : (r2 : Ram) (x2 : Image) (fault : EngineFault) → r2.geometry ≡ r1.geometry → Refused r1 x1 r2 x2 fault → Refused r x r2 x2 fault
  refused_written r2 x2 fault after k = refused_then r r1 r2 x x1 x2 goes after fault first.0 k

-- ---- none has to be written any more

pub idle_by : (flushing : Bool) (block : ℕ) (r r' : Ram) → IsRam r → OwesNone flushing r → HasErased block r r' → r'.pin.marks ≡ replicate (translation_pages r.geometry) false → IsIdle r'
idle_by flushing block r r' s none e unmarked = record {
  moved = rw (e.mapping, e.geometry) none.few;
  unmarked = unmarked ∙ ap (λ g. replicate (translation_pages g) false) (sym e.geometry);
}

pub erased_fresh : (flushing : Bool) (block : ℕ) (r r' : Ram) → flushing ≡ true → OwesNone flushing r → HasErased block r r' → Refreshes r r'
erased_fresh flushing block r r' on none e = erased_refreshes r r' (let P : Bool → Type 0 = λ b. OwesNone b r in subst P on none) e.geometry e.mapping

pub read_fault : (a b : Ram) (fault : EngineFault) → fault ≡ Bus → FaultCosts a b fault
read_fault a b fault is = (let P : EngineFault → Type 0 = λ f. FaultCosts a b f in subst P (sym is) tt)

-- What the die is left with as a fault of it ends a call: where a page read failed, after a call that looked or one that kept the array, and in an erase.
use Rattle.std.proofs.Common.{◌≡◌, inl, inr, ℕ, zero, suc, ◌+◌, ◌*◌, ◌<◌, ◌≤◌, true, false, not, List, [], length, replicate, get_or, Option, None, refl, ap, sym, ◌∙◌, subst, arith}
use Rattle.std.specs.Prelude.{slice_index, slice_set}
use Rattle.std.proofs.Math.Nat.{mul-le-mul_right}
use Rattle.std.proofs.lemmas.List.{length-replicate, get_or-replicate, set-get_or}
use Rattle.std.proofs.lemmas.List.FromFn.{get_or-map-range_with_len}
use Rattle.page_layout.specs.declared.geometry.Geometry.{Geometry}
use Rattle.page_layout.specs.Geometry.{row_count}
use Rattle.page_layout.specs.Page.{Image, Page, IsPage, body_at}
use Rattle.page_layout.specs.Array.{array_of, sector_of, content_of_kind, zeros}
use Rattle.page_layout.specs.declared.record.Record.{Record}
use Rattle.page_layout.specs.declared.record.Kind.{Kind}
use Rattle.page_layout.specs.declared.record.Kind.TheVariants as kind
use Rattle.page_layout.specs.declared.record.Key.TheVariants.{Sector}
use Rattle.page_layout.specs.Key.{key_of, key_from}
use Rattle.page_layout.specs.Live.{IsKeyOf}
use Rattle.page_layout.specs.Change.{Keeps, HoldsNone, LosesIn, erased_page}
use Rattle.page_layout.specs.Flash.{Flash, NextState, Erase, Steps, after, with_block, no_page, no_next_page}
use Rattle.page_layout.specs.Recording.{Recording, EndsAt, EndsIn, asked_erase, image_after}
use Rattle.page_layout.proofs.ArrayLemmas.{sector_here}
use Rattle.page_layout.proofs.FlashLemmas.{image-erase, erase_loses}
use Rattle.page_layout.proofs.StepLemmas.{lost_keeps, array_kept}
use Rattle.promises.specs.Stop.{CutShort, LeavesOnly}
use Rattle.promises.proofs.CutLemmas.{cut_looked, cut_one, cut_more, cut_join}
use Rattle.image_check.proofs.TornLemmas.{orderly_kept}
use Rattle.collection.specs.State.{Ram}
use Rattle.collection.specs.Safe.{IsRam}
use Rattle.collection.specs.Truth.{IsTrue}
use Rattle.collection.specs.Stops.{IsKeptByStop, IsLeftByStop, IsPutByStop, room_of}
use Rattle.collection.specs.Live.{IsLivePage}
use Rattle.collection.specs.Pages.{newest_row}
use Rattle.collection.specs.Results.{array_after}
use Rattle.collection.proofs.HalfPuts.{kept_sector, kept_table, kept_translation}
use Rattle.collection.proofs.Mounts.{orderly}
use Rattle.collection.proofs.Stops.{IsSized, orderly_sized, array_sized, leaves_more}

-- ---- images that have the array and mount

-- an image that memory knows
pub kept_known : (a : Ram) (x : Image) → IsRam a → IsTrue None a x → IsKeptByStop a x x
kept_known a x safe w = record { array = refl; orderly = orderly a x safe w }

-- one that keeps all that counts
pub kept_by : (a : Ram) (x left : Image) → IsRam a → IsTrue None a x → Keeps a.geometry x left → IsKeptByStop a x left
kept_by a x left safe w k = record { array = array_kept a.geometry x left k; orderly = orderly_kept a.geometry (room_of a) x left k (orderly a x safe w) }

-- one that a stop leaves of a call that keeps the array
pub kept_of_left : (a : Ram) (x y left : Image) → array_of a.geometry y ≡ array_of a.geometry x → IsLeftByStop a x y left → IsKeptByStop a x left
kept_of_left a x y left e l = record { array = elim l.array [ inl was ↦ was | inr is ↦ is ∙ e ]; orderly = l.orderly }

-- after a call that keeps the array, by a memory of the same size
pub kept_later : (a b : Ram) (x y left : Image) → IsSized a b → array_of a.geometry y ≡ array_of a.geometry x → IsKeptByStop b y left → IsKeptByStop a x left
kept_later a b x y left s e k = record { array = array_sized a b left y s k.array ∙ e; orderly = orderly_sized a b left s k.orderly }

-- ---- one call after another

-- A PAGE READ FAILED, and nothing was done
pub cut_read : (a : Ram) (x : Flash) (told told' : Option Recording) → IsRam a → IsTrue None a x.image → EndsAt [] told told' → CutShort x told told' (IsKeptByStop a x.image)
cut_read a x told told' safe w ends = cut_looked x told told' (IsKeptByStop a x.image) ends (kept_known a x.image safe w)

-- after a call that looked
pub cut_looking : (a b : Ram) (x x1 : Flash) (rx r1 rz : Option Recording) → b ≡ a → x1 ≡ x → r1 ≡ rx → CutShort x1 r1 rz (IsKeptByStop b x1.image) → CutShort x rx rz (IsKeptByStop a x.image)
cut_looking a b x x1 rx r1 rz same still told c =
    subst (λ (r : Ram). CutShort x rx rz (IsKeptByStop r x.image)) same
    (subst (λ (f : Flash). CutShort f rx rz (IsKeptByStop b f.image)) still (subst (λ (t : Option Recording). CutShort x1 t rz (IsKeptByStop b x1.image)) told c))

-- ONE CALL AFTER ANOTHER that keeps the array
pub cut_after : (a b : Ram) (x y : Flash) (rx ry rz : Option Recording) → IsSized a b → array_of a.geometry y.image ≡ array_of a.geometry x.image
    → LeavesOnly x y rx ry (IsLeftByStop a x.image y.image) → CutShort y ry rz (IsKeptByStop b y.image) → CutShort x rx rz (IsKeptByStop a x.image)
cut_after a b x y rx ry rz s e p q = cut_join x y rx ry rz (IsKeptByStop a x.image)
    (leaves_more x y rx ry (IsLeftByStop a x.image y.image) (IsKeptByStop a x.image) (λ i l. kept_of_left a x.image y.image i e l) p)
    (cut_more y ry rz (IsKeptByStop b y.image) (IsKeptByStop a x.image) (λ i k. kept_later a b x.image y.image i s e k) q)

-- by a memory of the same size
pub cut_sized : (a b : Ram) (x : Flash) (rx ry : Option Recording) → IsSized a b → CutShort x rx ry (IsKeptByStop b x.image) → CutShort x rx ry (IsKeptByStop a x.image)
cut_sized a b x rx ry s c = cut_more x rx ry (IsKeptByStop b x.image) (IsKeptByStop a x.image) (λ i k. kept_later a b x.image x.image i s refl k) c

-- ---- a page that gives its sector what it has already

-- in general, of a translation page, and of a table page
pub cut_put : (kind : Kind) (n : ℕ) (body : List ℕ) (r : Ram) (x : Flash) (rx ry : Option Recording) → array_after r.geometry kind n body (array_of r.geometry x.image) ≡ array_of r.geometry x.image
    → CutShort x rx ry (IsPutByStop kind n body r x.image) → CutShort x rx ry (IsKeptByStop r x.image)
cut_put kind n body r x rx ry same c = cut_more x rx ry (IsPutByStop kind n body r x.image) (IsKeptByStop r x.image) (λ left put. kept_sector kind n body r x.image left same put) c

pub cut_translation : (t : ℕ) (body : List ℕ) (r : Ram) (x : Flash) (rx ry : Option Recording) → CutShort x rx ry (IsPutByStop kind.Translation t body r x.image) → CutShort x rx ry (IsKeptByStop r x.image)
cut_translation t body r x rx ry c = cut_more x rx ry (IsPutByStop kind.Translation t body r x.image) (IsKeptByStop r x.image) (λ left put. kept_translation t body r x.image left put) c

pub cut_table : (u : ℕ) (body : List ℕ) (r : Ram) (x : Flash) (rx ry : Option Recording) → CutShort x rx ry (IsPutByStop kind.Table u body r x.image) → CutShort x rx ry (IsKeptByStop r x.image)
cut_table u body r x rx ry c = cut_more x rx ry (IsPutByStop kind.Table u body r x.image) (IsKeptByStop r x.image) (λ left put. kept_table u body r x.image left put) c

-- the bytes of a sector in the array
array_at : (g : Geometry) (image : Image) (n : ℕ) → n < g.sectors → get_or (array_of g image) n [] ≡ sector_of g image n
unfolding array_of
array_at g image n within = get_or-map-range_with_len (sector_of g image) 0 g.sectors n n [] within (omega arith)

set_same : (g : Geometry) (image : Image) (n : ℕ) (bytes : List ℕ) → n < g.sectors → sector_of g image n ≡ bytes → slice_set (array_of g image) n bytes ≡ array_of g image
set_same g image n bytes within is = ap (λ b. slice_set (array_of g image) n b) (sym is ∙ sym (array_at g image n within)) ∙ set-get_or (array_of g image) n []

-- A COPY of the newest page of a key
pub copied_array : (g : Geometry) (image : Image) (row : ℕ) (rec : Record) (body : List ℕ) → IsKeyOf g (key_of rec) → IsLivePage row body rec image
    → array_after g rec.kind rec.number body (array_of g image) ≡ array_of g image
copied_array g image row rec body of_key l = by_kind rec.kind refl
  where
    by_kind : (k : Kind) → rec.kind ≡ k → array_after g k rec.number body (array_of g image) ≡ array_of g image
    by_kind kind.Sector is =
        let same : key_of rec ≡ Sector rec.number = ap (λ k. key_from k rec.number) is in
        let within : IsKeyOf g (Sector rec.number) = subst (IsKeyOf g) same of_key in
        let here = sector_here g image rec.number row rec (ap (newest_row image) (sym same) ∙ l.newest) l.mark in
        set_same g image rec.number body within (here ∙ (ap (λ k. content_of_kind g k (body_at image row)) is ∙ l.holds))
    by_kind kind.Trim is =
        let same : key_of rec ≡ Sector rec.number = ap (λ k. key_from k rec.number) is in
        let within : IsKeyOf g (Sector rec.number) = subst (IsKeyOf g) same of_key in
        let here = sector_here g image rec.number row rec (ap (newest_row image) (sym same) ∙ l.newest) l.mark in
        set_same g image rec.number (zeros g) within (here ∙ ap (λ k. content_of_kind g k (body_at image row)) is)
    by_kind kind.Translation is = refl
    by_kind kind.Table is = refl

-- ---- an erase

filled : (n i : ℕ) → slice_index (replicate n 255) i < 256
filled zero i = omega arith
filled (suc n) zero = omega arith
filled (suc n) (suc i) = filled n i

erased_sized : (g : Geometry) → IsPage g (erased_page g)
erased_sized g = record {
  body_size = length-replicate g.data_bytes 255;
  spare_size = length-replicate g.spare_bytes 255;
  body_fits = filled g.data_bytes;
  spare_fits = filled g.spare_bytes;
}

-- the next page of a block that may be erased
abbrev due_next_page : NextState
due_next_page = record { next = 0; barred = false; programs = 0; erases = 0 }

-- a die with this image on which the block may be erased
abbrev due_die : Geometry → ℕ → Image → Flash
due_die g block image = record { geometry = g; image = image; next_pages = replicate (block + 1) due_next_page; abuse = 0 }

asked_steps : (g : Geometry) (block : ℕ) (image : Image) → block < g.blocks → length image ≡ row_count g → Steps (due_die g block image) (asked_erase g block) (after (due_die g block image) (asked_erase g block))
asked_steps g block image lt rows =
    let within : suc block * g.pages ≤ g.blocks * g.pages = mul-le-mul_right g.pages lt in
    let next_page : get_or (replicate (block + 1) due_next_page) block no_next_page ≡ due_next_page = get_or-replicate (block + 1) block due_next_page no_next_page (omega arith) in
    let due = ap (λ (t : NextState). not t.barred) next_page in
    record {
      lawful = record {
        in_range = omega (arith, length-replicate (block + 1) due_next_page);
        in_image = omega (arith, within, rows);
        due = λ passed. due;
        size = length-replicate g.pages (erased_page g);
        sized = λ k small. subst (IsPage g) (sym (get_or-replicate g.pages k (erased_page g) no_page small)) (erased_sized g);
        erased = λ passed. refl;
        failed = λ never. (let no : ⊥ = cc in absurd no);
        refused = λ illegal. (let no : true ≡ false = sym due ∙ illegal in let never : ⊥ = cc in absurd never);
      };
      left = refl;
    }

asked_image : (g : Geometry) (block : ℕ) (image : Image) → image_after g.pages image (asked_erase g block) ≡ with_block g.pages block (replicate g.pages (erased_page g)) image
unfolding image_after
asked_image g block image = refl

-- what an erase leaves that is done: each page of the block has no sound record
asked_loses : (g : Geometry) (block : ℕ) (image : Image) → block < g.blocks → length image ≡ row_count g → LosesIn g.pages block image (image_after g.pages image (asked_erase g block))
asked_loses g block image lt rows =
    let s : Flash = due_die g block image in
    let t : Flash = after s (asked_erase g block) in
    let left : List Page = replicate g.pages (erased_page g) in
    let steps : Steps s (Erase block true left) t = asked_steps g block image lt rows in
    subst (λ (i : Image). LosesIn g.pages block image i) (image-erase s t block true left steps ∙ sym (asked_image g block image)) (erase_loses s t block true left steps)

-- ONE ERASE of a block that holds no newest page, ended by a fault: not begun, begun, or done
pub erase_cut : (a : Ram) (block : ℕ) (x : Flash) (told told' : Option Recording) → x.geometry ≡ a.geometry → block < a.geometry.blocks → IsRam a → IsTrue None a x.image
    → HoldsNone a.geometry.pages block x.image → EndsIn (asked_erase x.geometry block) told told' → CutShort x told told' (IsKeptByStop a x.image)
erase_cut a block x told told' same lt safe w none ends =
    let kept : (image : Image) → LosesIn x.geometry.pages block x.image image → IsKeptByStop a x.image image = λ image lost.
    kept_by a x.image image safe w (lost_keeps a.geometry block x.image image w.one none (subst (λ (g : Geometry). LosesIn g.pages block x.image image) same lost)) in
    let in_die : block < x.geometry.blocks = subst (λ (g : Geometry). block < g.blocks) (sym same) lt in
    let rows : length x.image ≡ row_count x.geometry = subst (λ (g : Geometry). length x.image ≡ row_count g) (sym same) w.whole.rows in
    cut_one x (asked_erase x.geometry block) told told' (IsKeptByStop a x.image) ends (kept_known a x.image safe w) (λ image whole torn. kept image torn)
    (λ whole. kept (image_after x.geometry.pages x.image (asked_erase x.geometry block)) (asked_loses x.geometry block x.image in_die rows))
    (subst (λ (g : Geometry). HoldsNone g.pages block x.image) (sym same) none, tt)

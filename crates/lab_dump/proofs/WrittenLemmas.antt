-- What the pieces are once all pages were taken.
use Rattle.std.proofs.Common.{◌≡◌, ◌≢◌, ℕ, zero, suc, ◌+◌, ◌<◌, ◌↔◌, true, false, List, [], length, get_or, map, Option, Some, None}
use Rattle.std.proofs.Common.{refl, sym, ap, subst, ◌∙◌, arith}
use Rattle.std.specs.List.{range_with_len}
use Rattle.std.proofs.lemmas.List.{same_lists, get_or-map, get_or_default, length-map}
use Rattle.std.proofs.lemmas.List.FromFn.{length-map-range_with_len, get_or-map-range_with_len}
use Rattle.page_layout.specs.declared.geometry.Geometry.{Geometry}
use Rattle.page_layout.specs.declared.record.Key.{Key}
use Rattle.page_layout.specs.declared.record.Key.TheVariants as key
use Rattle.page_layout.specs.declared.newest.Latest.{Latest}
use Rattle.page_layout.specs.declared.newest.Latest.TheVariants as latest
use Rattle.page_layout.specs.Geometry.{row_count}
use Rattle.page_layout.specs.Page.{Image}
use Rattle.page_layout.specs.Raw.{raw_image}
use Rattle.page_layout.specs.Greatest.{place_of}
use Rattle.page_layout.specs.Newest.{latest_below}
use Rattle.page_layout.specs.Array.{marks, content_at, sector_of, array_of}
use Rattle.page_layout.proofs.RawLemmas.{length-raw_image}
use Rattle.page_layout.proofs.ArrayLemmas.{latest-newest, length-marks, scan_tied, scan_never, scan_once}
use Rattle.page_layout.proofs.NewestLemmas.{sequence_at-none}
use Rattle.image_check.proofs.SurveyLemmas.{latest_other, latest_start}
use Rattle.image_check.specs.Sector.{IsAmbiguous}
use Rattle.lab_dump.specs.Scan.{IsTaken}
use Rattle.lab_dump.specs.declared.held.Held.{Held}
use Rattle.lab_dump.specs.declared.held.Held.TheVariants as held
use Rattle.lab_dump.specs.declared.held.SectorShown.{SectorShown}
use Rattle.lab_dump.specs.declared.held.SectorShown.TheVariants as shown
use Rattle.lab_dump.specs.Held.{TellsHeld, TellsHeldBy, TellsSaid, TellsSound, shown_by, shown_in, shown_with}
use Rattle.lab_dump.specs.declared.doubting.Doubting.{Doubting}
use Rattle.lab_dump.specs.declared.doubts.Unsettled.{Unsettled}
use Rattle.lab_dump.specs.Doubting.{IsDoubting}
use Rattle.lab_dump.specs.Until.{until}
use Rattle.lab_dump.specs.Writing.{content_below, HasSectorPieces, ReadBelow, WritingStands, ShowsDamaged, ShowsSound}
use Rattle.lab_dump.specs.Damaged.{content_in, damaged_array, damaged_sector, row_said_newer, place_by, broken_or_whole, said_marks, said_reads, shown_place}
use Rattle.lab_dump.specs.Written.{IsLeftUnsettled, IsArrayWritten, TiedLaw, UnmarkedLaw, damaged_state, damaged_states, sector_state, states_of}
use Rattle.lab_dump.proofs.ScanLemmas.{if_both}
use Rattle.lab_dump.proofs.UntilLemmas.{until_size}

-- ---- the pieces

-- pieces that are each what a function says of its sector are its list
all_read : (g : Geometry) (f : ℕ → List ℕ) (ps : List (List ℕ)) → length ps ≡ g.sectors → ((n : ℕ) → n < g.sectors → get_or ps n [] ≡ f n) → ps ≡ map f (range_with_len 0 g.sectors)
all_read g f ps few read = same_lists ps (map f (range_with_len 0 g.sectors)) (few ∙ sym (length-map-range_with_len f 0 g.sectors)) (λ n d l.
    let within : n < g.sectors = omega (arith, few) in
    get_or_default ps n d [] l ∙ (read n within ∙ sym (get_or-map-range_with_len f 0 g.sectors n n d within (omega arith))))

-- no page says anything where none is listed
none_said : (key : Key) (rows : ℕ) → latest_below [] key rows ≡ latest.Never
none_said key zero = latest_start [] key
none_said key (suc row) =
    let next : suc row ≡ row + 1 = omega arith in
    ap (latest_below [] key) next ∙ (latest_other [] key row (sequence_at-none [] key row refl) ∙ none_said key row)

whole_place : (g : Geometry) (image : Image) (reads : ℕ → List ℕ) (o : Option ℕ) → content_in g image reads (broken_or_whole None o) ≡ content_at g image o
whole_place g image reads None = refl
whole_place g image reads (Some row) = refl

sector_sound : (g : Geometry) (image : Image) (rows n : ℕ) → length image ≡ rows → content_below g image [] (λ row. []) rows n ≡ sector_of g image n
unfolding sector_of
sector_sound g image rows n size =
    let sound = latest_below (marks image) (key.Sector n) rows in
    ap (λ d. content_in g image (λ row. []) (place_by sound d)) (none_said (key.Sector n) rows)
    ∙ (whole_place g image (λ row. []) (place_of sound)
    ∙ sym (ap (content_at g image) (latest-newest (marks image) (key.Sector n) ∙ ap (λ k. place_of (latest_below (marks image) (key.Sector n) k)) (length-marks image ∙ size))))

array_sound : (g : Geometry) (image : Image) (ps : List (List ℕ)) → length image ≡ row_count g → length ps ≡ g.sectors → ReadBelow g image [] (λ row. []) (row_count g) ps → ps ≡ array_of g image
unfolding array_of
array_sound g image ps size few read = all_read g (sector_of g image) ps few (λ n within. read n within ∙ sector_sound g image (row_count g) n size)

array_damaged : (g : Geometry) (last : Option ℕ) (image : Image) (ps : List (List ℕ)) → length image ≡ row_count g → length ps ≡ g.sectors
    → ReadBelow g (until g last image) (said_marks g last image) (said_reads g image) (row_count g) ps → ps ≡ damaged_array g last image
unfolding damaged_array damaged_sector shown_place
array_damaged g last image ps size few read = all_read g (damaged_sector g last image) ps few (λ n within. read n within
    ∙ ap (λ k. content_in g (until g last image) (said_reads g image) (place_by (latest_below (marks (until g last image)) (key.Sector n) k) (latest_below (said_marks g last image) (key.Sector n) k))) (sym size))

-- ---- the states

told_sound : (h : Held) (l : Latest) → TellsSound h l → shown_in h ≡ shown_by l
told_sound held.Never latest.Never t = refl
told_sound (held.Once x) (latest.Once row s) t = refl
told_sound (held.Tied x) (latest.Tied a b s) t = refl
told_sound _ _ t = absurd t

told_said : (h : Held) (d : Latest) → TellsSaid h d → shown_in h ≡ shown.Damaged
told_said (held.Damaged x) (latest.Once row s) t = refl
told_said (held.Damaged x) (latest.Tied a b s) t = refl
told_said _ _ t = absurd t

told_by : (h : Held) (l d : Latest) (o : Option ℕ) → TellsHeldBy h l d o → shown_in h ≡ shown_with o l
told_by h l d None t = told_sound h l t
told_by h l d (Some row) t = told_said h d t

-- what is held of each sector says how it is shown
all_told : (g : Geometry) (f : ℕ → SectorShown) (hs : List Held) → length hs ≡ g.sectors → ((n : ℕ) → n < g.sectors → shown_in (get_or hs n held.Never) ≡ f n) → map shown_in hs ≡ map f (range_with_len 0 g.sectors)
all_told g f hs few told = same_lists (map shown_in hs) (map f (range_with_len 0 g.sectors)) (length-map hs shown_in ∙ (few ∙ sym (length-map-range_with_len f 0 g.sectors))) (λ n d l.
    let inside : n < length hs = omega (arith, length-map hs shown_in) in
    let within : n < g.sectors = omega arith in
    get_or-map shown_in hs n held.Never d inside ∙ (told n within ∙ sym (get_or-map-range_with_len f 0 g.sectors n n d within (omega arith))))

states_sound : (g : Geometry) (image : Image) (hs : List Held) → length image ≡ row_count g → length hs ≡ g.sectors
    → ((n : ℕ) → n < g.sectors → TellsHeld (get_or hs n held.Never) (latest_below (marks image) (key.Sector n) (row_count g)) (latest_below [] (key.Sector n) (row_count g))) → map shown_in hs ≡ states_of g image
unfolding states_of sector_state
states_sound g image hs size few told = all_told g (sector_state image) hs few (λ n within.
    let l = latest_below (marks image) (key.Sector n) (row_count g) in
    told_by (get_or hs n held.Never) l latest.Never None (subst (λ d. TellsHeld (get_or hs n held.Never) l d) (none_said (key.Sector n) (row_count g)) (told n within))
    ∙ ap (λ k. shown_by (latest_below (marks image) (key.Sector n) k)) (sym size))

states_damaged : (g : Geometry) (last : Option ℕ) (image : Image) (hs : List Held) → length image ≡ row_count g → length hs ≡ g.sectors
    → ((n : ℕ) → n < g.sectors → TellsHeld (get_or hs n held.Never) (latest_below (marks (until g last image)) (key.Sector n) (row_count g)) (latest_below (said_marks g last image) (key.Sector n) (row_count g)))
    → map shown_in hs ≡ damaged_states g last image
unfolding damaged_states damaged_state
states_damaged g last image hs size few told = all_told g (damaged_state g last image) hs few (λ n within.
    let sound = λ (k : ℕ). latest_below (marks (until g last image)) (key.Sector n) k in
    let others = λ (k : ℕ). latest_below (said_marks g last image) (key.Sector n) k in
    told_by (get_or hs n held.Never) (sound (row_count g)) (others (row_count g)) (row_said_newer (sound (row_count g)) (others (row_count g))) (told n within)
    ∙ ap (λ k. shown_with (row_said_newer (sound k) (others k)) (sound k)) (sym size))

-- ---- the sequences

tells_sound : (g : Geometry) (image : Image) (hs : List Held) (size : ℕ) → size ≡ row_count g
    → ((n : ℕ) → n < g.sectors → TellsHeld (get_or hs n held.Never) (latest_below (marks image) (key.Sector n) (row_count g)) (latest_below [] (key.Sector n) (row_count g)))
    → (n : ℕ) → n < g.sectors → TellsSound (get_or hs n held.Never) (latest_below (marks image) (key.Sector n) size)
tells_sound g image hs size is told n within =
    let h = get_or hs n held.Never in
    let l = latest_below (marks image) (key.Sector n) (row_count g) in
    let sound : TellsSound h l = subst (λ d. TellsHeld h l d) (none_said (key.Sector n) (row_count g)) (told n within) in
    subst (λ k. TellsSound h (latest_below (marks image) (key.Sector n) k)) (sym is) sound

tells_damaged : (g : Geometry) (last : Option ℕ) (image : Image) (hs : List Held) (size : ℕ) → size ≡ row_count g
    → ((n : ℕ) → n < g.sectors → TellsHeld (get_or hs n held.Never) (latest_below (marks (until g last image)) (key.Sector n) (row_count g)) (latest_below (said_marks g last image) (key.Sector n) (row_count g)))
    → (n : ℕ) → n < g.sectors → TellsHeld (get_or hs n held.Never) (latest_below (marks (until g last image)) (key.Sector n) size) (latest_below (said_marks g last image) (key.Sector n) size)
tells_damaged g last image hs size is told n within =
    let h = get_or hs n held.Never in
    subst (λ k. TellsHeld h (latest_below (marks (until g last image)) (key.Sector n) k) (latest_below (said_marks g last image) (key.Sector n) k)) (sym is) (told n within)

-- ---- all of it

pub written_sound : (g : Geometry) (last : Option ℕ) (hs : List Held) (blank : List ℕ) (d : Doubting) (left : Unsettled) (pieces : Option (List (List ℕ))) (bytes : List ℕ) → WritingStands g hs blank pieces
    → ((image : Image) → length image ≡ row_count g → IsDoubting g (row_count g) image d → IsLeftUnsettled g image left)
    → IsTaken g (λ image. ShowsSound g (row_count g) (until g last image) hs pieces × IsDoubting g (row_count g) image d) bytes → IsArrayWritten g last false pieces hs left bytes
written_sound g last hs blank d left pieces bytes stands concluded taken =
    let raw : Image = raw_image g bytes in
    let whole : length raw ≡ row_count g = length-raw_image g bytes in
    let image : Image = until g last raw in
    let size : length image ≡ row_count g = until_size g last raw ∙ whole in
    let shown = taken.shown.0 in
    record {
      whole = taken.whole;
      array = if_both pieces (HasSectorPieces g) (ReadBelow g image [] (λ row. []) (row_count g)) (λ ps. ps ≡ array_of g image) stands.sized shown.pieces_are (λ ps sized read. array_sound g image ps size sized read);
      states = states_sound g image hs size stands.size shown.held_of;
      tells = tells_sound g image hs (length raw) whole shown.held_of;
      left_is = concluded raw whole taken.shown.1;
    }

pub written_damaged : (g : Geometry) (last : Option ℕ) (hs : List Held) (blank : List ℕ) (d : Doubting) (left : Unsettled) (pieces : Option (List (List ℕ))) (bytes : List ℕ) → WritingStands g hs blank pieces
    → ((image : Image) → length image ≡ row_count g → IsDoubting g (row_count g) image d → IsLeftUnsettled g image left)
    → IsTaken g (λ image. ShowsDamaged g (row_count g) last image hs pieces × IsDoubting g (row_count g) image d) bytes → IsArrayWritten g last true pieces hs left bytes
written_damaged g last hs blank d left pieces bytes stands concluded taken =
    let raw : Image = raw_image g bytes in
    let whole : length raw ≡ row_count g = length-raw_image g bytes in
    let shown = taken.shown.0 in
    record {
      whole = taken.whole;
      array = if_both pieces (HasSectorPieces g) (ReadBelow g (until g last raw) (said_marks g last raw) (said_reads g raw) (row_count g)) (λ ps. ps ≡ damaged_array g last raw) stands.sized shown.pieces_are (λ ps sized read. array_damaged g last raw ps whole sized read);
      states = states_damaged g last raw hs whole stands.size shown.held_of;
      tells = tells_damaged g last raw hs (length raw) whole shown.held_of;
      left_is = concluded raw whole taken.shown.1;
    }

-- ---- ties

tied_at : (g : Geometry) (image : Image) (n : ℕ) (l : Latest) → n < g.sectors → l ≡ latest_below (marks image) (key.Sector n) (length image) → (shown_by l ≡ shown.Tied) ↔ IsAmbiguous g image n
tied_at g image n latest.Never within e =
    (λ no. absurd (let clash : shown.Absent ≡ shown.Tied = no in cc), λ two. absurd (scan_never image (key.Sector n) (length image) refl e two.first two.second two.shares))
tied_at g image n (latest.Once row s) within e =
    (λ no. absurd (let clash : shown.Found ≡ shown.Tied = no in cc), λ two. absurd (scan_once image (key.Sector n) (length image) row s refl e two.first two.second two.shares))
tied_at g image n (latest.Tied a b s) within e =
    (λ yes. record { in_range = within; first = a; second = b; shares = scan_tied image (key.Sector n) (length image) a b s refl e }, λ two. refl)

pub tied_law : TiedLaw
unfolding sector_state
tied_law g image n within = tied_at g image n (latest_below (marks image) (key.Sector n) (length image)) within refl

pub unmarked_law : UnmarkedLaw
unfolding sector_state
unmarked_law image n = by (latest_below (marks image) (key.Sector n) (length image))
  where
    by : (l : Latest) → shown_by l ≢ shown.Damaged
    by latest.Never e = cc
    by (latest.Once row s) e = cc
    by (latest.Tied a b s) e = cc

-- What one page more makes of the pieces.
use Rattle.std.proofs.Common.{◌≡◌, ◌≢◌, inl, inr, ℕ, ◌+◌, ◌<◌, List, [], length, get_or, set, replicate, Option, Some, None, IfSome}
use Rattle.std.proofs.Common.{Bool, true, false, refl, sym, ap, ◌∙◌, subst, arith}
use Rattle.std.specs.Prelude.{slice_get, nat_lt, not, ◌&&◌, is_some}
use Rattle.std.proofs.Common.{cond}
use Rattle.std.proofs.lemmas.Bool.{cases_eq, lt-ltb, ltb-true}
use Rattle.std.proofs.lemmas.List.{get_or-set_same, get_or-set_other, get_or-replicate, get_or_default, length-set, length-replicate}
use Rattle.page_layout.specs.declared.geometry.Geometry.{Geometry}
use Rattle.page_layout.specs.declared.record.Record.{Record}
use Rattle.page_layout.specs.declared.record.Kind.TheVariants as kind
use Rattle.page_layout.specs.declared.record.Key.{Key}
use Rattle.page_layout.specs.declared.record.Key.TheVariants as key
use Rattle.page_layout.specs.declared.newest.Latest.{Latest}
use Rattle.page_layout.specs.declared.newest.Latest.TheVariants as latest
use Rattle.page_layout.specs.Page.{Page, Image, page}
use Rattle.page_layout.specs.Sound.{record_of, is_erased_page, spelled}
use Rattle.page_layout.specs.Key.{key_of, key_from}
use Rattle.page_layout.specs.Greatest.{step}
use Rattle.page_layout.specs.Newest.{latest_below, sequence_at}
use Rattle.page_layout.specs.Array.{marks, zeros, content, content_of_kind}
use Rattle.page_layout.specs.Block.{is_broken}
use Rattle.page_layout.proofs.NewestLemmas.{sequence_at-none, sequence_at-other, sequence_at-key}
use Rattle.page_layout.proofs.ArrayLemmas.{mark-page, content-record}
use Rattle.image_check.proofs.PageReaderLemmas.{if_more}
use Rattle.image_check.proofs.SurveyLemmas.{latest_more, latest_other, latest_start}
use Rattle.page_layout.specs.declared.look.PageLook.TheVariants as look
use Rattle.page_layout.specs.PageLook.{look_by, look_of}
use Rattle.lab_dump.specs.declared.held.Held.{Held}
use Rattle.lab_dump.specs.declared.held.Held.TheVariants.{Never}
use Rattle.lab_dump.specs.declared.held.Change.{Change}
use Rattle.lab_dump.specs.declared.held.Change.TheVariants.{Stays, Newest, Tie}
use Rattle.lab_dump.specs.Held.{TellsHeld, Moves, pieces_after}
use Rattle.lab_dump.specs.Writing.{content_below, HasSectorPieces, IsPageOfSector, ReadBelow, WritingStands, ShowsSectorPieces, sector_in, sector_within}
use Rattle.lab_dump.specs.Damaged.{Place, Whole, Broken, SaysSector, content_in, place_by}

-- ---- what a page is

pub look_sound : (p : Page) (r : Record) → look_of p ≡ look.Sound r → record_of p ≡ Some r
unfolding look_of
look_sound p r e = from (record_of p) (is_erased_page p) refl e
  where
    from : (o : Option Record) (b : Bool) → record_of p ≡ o → look_by o b ≡ look.Sound r → record_of p ≡ Some r
    from (Some x) b is e = is ∙ (let same : x ≡ r = cc in ap Some same)
    from None true is e = absurd (cc)
    from None false is e = absurd (cc)

pub sound_whole : (p : Page) (r : Record) → record_of p ≡ Some r → is_broken p ≡ false
sound_whole p r is = ap (λ o. not (is_erased_page p) && not (is_some o)) is ∙ both (is_erased_page p)
  where
    both : (b : Bool) → (not b && false) ≡ false
    both true = refl
    both false = refl

-- the page is not sound, and it is broken or not
pub record IsUnmarked (p : Page) (broken : Bool) : Type 0 where
  pub broken_is : is_broken p ≡ broken
  pub unmarked : record_of p ≡ None

pub look_erased : (p : Page) → look_of p ≡ look.Erased → IsUnmarked p false
unfolding look_of
look_erased p e = from (record_of p) (is_erased_page p) refl refl e
  where
    from : (o : Option Record) (b : Bool) → record_of p ≡ o → is_erased_page p ≡ b → look_by o b ≡ look.Erased → IsUnmarked p false
    from (Some x) b is was e = absurd (cc)
    from None true is was e = record { broken_is = ap (λ b. not b && not (is_some (record_of p))) was; unmarked = is }
    from None false is was e = absurd (cc)

pub look_unsound : (p : Page) → look_of p ≡ look.Unsound → IsUnmarked p true
unfolding look_of
look_unsound p e = from (record_of p) (is_erased_page p) refl refl e
  where
    from : (o : Option Record) (b : Bool) → record_of p ≡ o → is_erased_page p ≡ b → look_by o b ≡ look.Unsound → IsUnmarked p true
    from (Some x) b is was e = absurd (cc)
    from None true is was e = absurd (cc)
    from None false is was e = record {
      broken_is = ap (λ b. not b && not (is_some (record_of p))) was ∙ ap (λ o. not (is_some o)) is;
      unmarked = is;
    }

-- ---- a page that says nothing of a sector

-- the row is marked as of no sector of the die
abbrev pub IsOfNone : Geometry → List (Option Record) → ℕ → Type 0
IsOfNone g ms row = (n : ℕ) → n < g.sectors → sequence_at ms (key.Sector n) row ≡ None

pub unmarked_none : (g : Geometry) (ms : List (Option Record)) (row : ℕ) → get_or ms row None ≡ None → IsOfNone g ms row
unmarked_none g ms row e n within = sequence_at-none ms (key.Sector n) row e

pub other_none : (g : Geometry) (ms : List (Option Record)) (row : ℕ) (r : Record) → get_or ms row None ≡ Some r → sector_in g r ≡ None → IsOfNone g ms row
other_none g ms row r e outside n within = sequence_at-other ms (key.Sector n) row r e (λ same. by same)
  where
    by : key_of r ≡ key.Sector n → ⊥
    by same =
        let here : sector_within g (key.Sector n) ≡ Some n = ap (λ b. cond b (Some n) None) (lt-ltb n g.sectors within) in
        let clash : Some n ≡ None = sym here ∙ (ap (sector_within g) (sym same) ∙ outside) in
        cc

still_tells : (image : Image) (said : List (Option Record)) (n row : ℕ) (held : Held) → sequence_at (marks image) (key.Sector n) row ≡ None → sequence_at said (key.Sector n) row ≡ None
    → TellsHeld held (latest_below (marks image) (key.Sector n) row) (latest_below said (key.Sector n) row) → TellsHeld held (latest_below (marks image) (key.Sector n) (row + 1)) (latest_below said (key.Sector n) (row + 1))
still_tells image said n row held none silent h =
    subst (λ l. TellsHeld held (latest_below (marks image) (key.Sector n) (row + 1)) l) (sym (latest_other said (key.Sector n) row silent))
    (subst (λ l. TellsHeld held l (latest_below said (key.Sector n) row)) (sym (latest_other (marks image) (key.Sector n) row none)) h)

still_reads : (g : Geometry) (image : Image) (said : List (Option Record)) (reads : ℕ → List ℕ) (n row : ℕ) → sequence_at (marks image) (key.Sector n) row ≡ None → sequence_at said (key.Sector n) row ≡ None
    → content_below g image said reads (row + 1) n ≡ content_below g image said reads row n
still_reads g image said reads n row none silent =
    ap (λ l. content_in g image reads (place_by l (latest_below said (key.Sector n) (row + 1)))) (latest_other (marks image) (key.Sector n) row none)
    ∙ ap (λ l. content_in g image reads (place_by (latest_below (marks image) (key.Sector n) row) l)) (latest_other said (key.Sector n) row silent)

pub nothing_noted : (g : Geometry) (row : ℕ) (image : Image) (said : List (Option Record)) (reads : ℕ → List ℕ) (held : List Held) (pieces : Option (List (List ℕ))) → ShowsSectorPieces g row image said reads held pieces
    → IsOfNone g (marks image) row → IsOfNone g said row → ShowsSectorPieces g (row + 1) image said reads held pieces
nothing_noted g row image said reads held pieces h none silent = record {
  held_of = λ n within. still_tells image said n row (get_or held n Never) (none n within) (silent n within) (h.held_of n within);
  pieces_are = if_more pieces (ReadBelow g image said reads row) (ReadBelow g image said reads (row + 1)) h.pieces_are
      (λ ps read n within. read n within ∙ sym (still_reads g image said reads n row (none n within) (silent n within)));
}

-- ---- a page of a sector

pub sized_after : (g : Geometry) (change : Change) (n : ℕ) (bytes : List ℕ) (pieces : Option (List (List ℕ))) → IfSome pieces (HasSectorPieces g) → IfSome (pieces_after change n bytes (zeros g) pieces) (HasSectorPieces g)
sized_after g Stays n bytes pieces sized = sized
sized_after g Newest n bytes None sized = tt
sized_after g Newest n bytes (Some ps) sized = length-set ps n bytes ∙ sized
sized_after g Tie n bytes None sized = tt
sized_after g Tie n bytes (Some ps) sized = length-set ps n (zeros g) ∙ sized

-- what holds whatever the pages were holds after one more
pub stands_after : (g : Geometry) (hs : List Held) (x : Held) (change : Change) (n : ℕ) (blank bytes : List ℕ) (pieces after : Option (List (List ℕ))) → WritingStands g hs blank pieces → after ≡ pieces_after change n bytes (zeros g) pieces → WritingStands g (set hs n x) blank after
stands_after g hs x change n blank bytes pieces after stands is = record {
  size = length-set hs n x ∙ stands.size;
  blank_is = stands.blank_is;
  sized = subst (λ ps. IfSome ps (HasSectorPieces g)) (sym is) (sized_after g change n bytes pieces stands.sized);
}

-- the record is of a sector of the die, this one
pub within_is : (g : Geometry) (r : Record) (n : ℕ) → sector_in g r ≡ Some n → (key_of r ≡ key.Sector n) × (n < g.sectors)
within_is g r n e = by (key_of r) refl e
  where
    at : (m : ℕ) (b : Bool) → nat_lt m g.sectors ≡ b → key_of r ≡ key.Sector m → cond b (Some m) None ≡ Some n → (key_of r ≡ key.Sector n) × (n < g.sectors)
    at m true is same e =
        let eq : m ≡ n = cc in
        (same ∙ ap key.Sector eq, subst (λ k. k < g.sectors) eq (ltb-true m g.sectors is))
    at m false is same e = absurd (cc)

    by : (k : Key) → key_of r ≡ k → sector_within g k ≡ Some n → (key_of r ≡ key.Sector n) × (n < g.sectors)
    by (key.Sector m) same e = at m (nat_lt m g.sectors) refl same e
    by (key.Translation t) same e = absurd (cc)
    by (key.Table u) same e = absurd (cc)

number_same : (r : Record) (n : ℕ) → key_of r ≡ key.Sector n → r.kind ≡ kind.Sector → r.number ≡ n
number_same r n same is = let at : key.Sector r.number ≡ key.Sector n = sym (ap (λ k. key_from k r.number) is) ∙ same in cc

-- a page of a sector that is no trim holds it
pub holds : (n : ℕ) (body spare : List ℕ) (r : Record) → record_of (page body spare) ≡ Some r → key_of r ≡ key.Sector n → r.kind ≡ kind.Sector → IsPageOfSector n body spare
holds n body spare r says same is = record { its = r; says = says; kind_is = is; number_is = number_same r n same is }

-- one that is not sound says that it holds it
pub says_sector : (n : ℕ) (body spare : List ℕ) (r : Record) → is_broken (page body spare) ≡ true → spelled spare ≡ Some r → key_of r ≡ key.Sector n → r.kind ≡ kind.Sector → SaysSector n body spare
says_sector n body spare r broken spells same is = record { its = r; broken = broken; spells = spells; kind_is = is; number_is = number_same r n same is }

-- what the sector is shown as after the page and before it, where the page has these bytes
abbrev pub Becomes : Geometry → Change → List ℕ → List ℕ → List ℕ → Type 0
Becomes g Stays bytes before after = after ≡ before
Becomes g Newest bytes before after = after ≡ bytes
Becomes g Tie bytes before after = after ≡ zeros g

becomes : (g : Geometry) (image : Image) (reads : ℕ → List ℕ) (change : Change) (bytes : List ℕ) (here before after : Place) → Moves change here before after → content_in g image reads here ≡ bytes
    → Becomes g change bytes (content_in g image reads before) (content_in g image reads after)
becomes g image reads Stays bytes here before after moved is = ap (content_in g image reads) moved
becomes g image reads Newest bytes here before after moved is = ap (content_in g image reads) moved ∙ is
becomes g image reads Tie bytes here before after moved is = ap (content_in g image reads) moved

read_set : (g : Geometry) (image : Image) (said : List (Option Record)) (reads : ℕ → List ℕ) (row n : ℕ) (ps : List (List ℕ)) (bytes : List ℕ) → n < length ps → ReadBelow g image said reads row ps
    → ((m : ℕ) → m < g.sectors → m ≢ n → content_below g image said reads (row + 1) m ≡ content_below g image said reads row m)
    → content_below g image said reads (row + 1) n ≡ bytes → ReadBelow g image said reads (row + 1) (set ps n bytes)
read_set g image said reads row n ps bytes inside read others here m within = elim (cases_eq m n) [
  | inl same ↦ ap (λ k. get_or (set ps n bytes) k []) same ∙ (get_or-set_same ps n bytes [] inside ∙ (sym here ∙ ap (content_below g image said reads (row + 1)) (sym same)))
  | inr ne ↦ get_or-set_other ps n m bytes [] ne ∙ (read m within ∙ sym (others m within ne))
]

read_after : (g : Geometry) (image : Image) (said : List (Option Record)) (reads : ℕ → List ℕ) (row : ℕ) (change : Change) (n : ℕ) (bytes : List ℕ) (pieces : Option (List (List ℕ))) → n < g.sectors
    → IfSome pieces (HasSectorPieces g) → IfSome pieces (ReadBelow g image said reads row)
    → ((m : ℕ) → m < g.sectors → m ≢ n → content_below g image said reads (row + 1) m ≡ content_below g image said reads row m)
    → Becomes g change bytes (content_below g image said reads row n) (content_below g image said reads (row + 1) n)
    → IfSome (pieces_after change n bytes (zeros g) pieces) (ReadBelow g image said reads (row + 1))
read_after g image said reads row Stays n bytes pieces in_range sized read others here =
    if_more pieces (ReadBelow g image said reads row) (ReadBelow g image said reads (row + 1)) read (λ ps old m within. elim (cases_eq m n) [
      | inl same ↦ old m within ∙ (ap (content_below g image said reads row) same ∙ (sym here ∙ ap (content_below g image said reads (row + 1)) (sym same)))
      | inr ne ↦ old m within ∙ sym (others m within ne)
    ])
read_after g image said reads row Newest n bytes None in_range sized read others here = tt
read_after g image said reads row Newest n bytes (Some ps) in_range sized read others here = read_set g image said reads row n ps bytes (omega (arith, sized)) read others here
read_after g image said reads row Tie n bytes None in_range sized read others here = tt
read_after g image said reads row Tie n bytes (Some ps) in_range sized read others here = read_set g image said reads row n ps (zeros g) (omega (arith, sized)) read others here

sector_same : (m n : ℕ) → key.Sector n ≡ key.Sector m → m ≡ n
sector_same m n e = cc

-- a row that is marked as of sector n is of no other
others_none : (ms : List (Option Record)) (row n : ℕ) (r : Record) → get_or ms row None ≡ Some r → key_of r ≡ key.Sector n → (m : ℕ) → m ≢ n → sequence_at ms (key.Sector m) row ≡ None
others_none ms row n r mark same m ne = sequence_at-other ms (key.Sector m) row r mark (λ e. ne (sector_same m n (sym same ∙ e)))

-- what is known of sector n with that row
latest_here : (ms : List (Option Record)) (row n : ℕ) (r : Record) → get_or ms row None ≡ Some r → key_of r ≡ key.Sector n
    → latest_below ms (key.Sector n) (row + 1) ≡ step (latest_below ms (key.Sector n) row) row (Some r.sequence)
latest_here ms row n r mark same =
    let seen : sequence_at ms (key.Sector n) row ≡ Some r.sequence = subst (λ k. sequence_at ms k row ≡ Some r.sequence) same (sequence_at-key ms row r mark) in
    latest_more ms (key.Sector n) row ∙ ap (step (latest_below ms (key.Sector n) row) row) seen

-- a page of sector n alone, which stands here, with what is held of the sector then and what that does
noted : (g : Geometry) (row : ℕ) (image : Image) (said : List (Option Record)) (reads : ℕ → List ℕ) (held : List Held) (pieces : Option (List (List ℕ))) (n : ℕ) (new : Held) (change : Change) (bytes : List ℕ) (here : Place)
    → ShowsSectorPieces g row image said reads held pieces → IfSome pieces (HasSectorPieces g) → length held ≡ g.sectors → n < g.sectors
    → ((m : ℕ) → m ≢ n → sequence_at (marks image) (key.Sector m) row ≡ None) → ((m : ℕ) → m ≢ n → sequence_at said (key.Sector m) row ≡ None)
    → TellsHeld new (latest_below (marks image) (key.Sector n) (row + 1)) (latest_below said (key.Sector n) (row + 1))
    → Moves change here (place_by (latest_below (marks image) (key.Sector n) row) (latest_below said (key.Sector n) row)) (place_by (latest_below (marks image) (key.Sector n) (row + 1)) (latest_below said (key.Sector n) (row + 1)))
    → content_in g image reads here ≡ bytes
    → ShowsSectorPieces g (row + 1) image said reads (set held n new) (pieces_after change n bytes (zeros g) pieces)
noted g row image said reads held pieces n new change bytes here h sized size in_range none silent told moved is =
    let sound = λ (m : ℕ). latest_below (marks image) (key.Sector m) (row + 1) in
    let others = λ (m : ℕ). latest_below said (key.Sector m) (row + 1) in
    let inside : n < length held = omega arith in
    record {
      held_of = λ m within. elim (cases_eq m n) [
        | inl eq ↦ subst (λ k. TellsHeld (get_or (set held n new) k Never) (sound k) (others k)) (sym eq) (subst (λ x. TellsHeld x (sound n) (others n)) (sym (get_or-set_same held n new Never inside)) told)
        | inr ne ↦
            still_tells image said m row (get_or (set held n new) m Never) (none m ne) (silent m ne)
            (subst (λ x. TellsHeld x (latest_below (marks image) (key.Sector m) row) (latest_below said (key.Sector m) row)) (sym (get_or-set_other held n m new Never ne)) (h.held_of m within))
      ];
      pieces_are = read_after g image said reads row change n bytes pieces in_range sized h.pieces_are (λ m within ne. still_reads g image said reads m row (none m ne) (silent m ne))
          (becomes g image reads change bytes here _ _ moved is);
    }

-- what is held of sector n
held_was : (g : Geometry) (row : ℕ) (image : Image) (said : List (Option Record)) (reads : ℕ → List ℕ) (held : List Held) (pieces : Option (List (List ℕ))) (n : ℕ) (kept : Held) → ShowsSectorPieces g row image said reads held pieces
    → length held ≡ g.sectors → n < g.sectors → kept ≡ get_or held n kept → TellsHeld kept (latest_below (marks image) (key.Sector n) row) (latest_below said (key.Sector n) row)
held_was g row image said reads held pieces n kept h size in_range stood =
    let read : kept ≡ get_or held n Never = stood ∙ get_or_default held n kept Never (omega arith) in
    subst (λ x. TellsHeld x (latest_below (marks image) (key.Sector n) row) (latest_below said (key.Sector n) row)) (sym read) (h.held_of n in_range)

-- a sound page of sector n, with what is held of it then and what that does
pub sound_noted : (g : Geometry) (row : ℕ) (image : Image) (said : List (Option Record)) (reads : ℕ → List ℕ) (held : List Held) (pieces : Option (List (List ℕ))) (p : Page) (r : Record) (n : ℕ) (kept new : Held) (change : Change)
    → ShowsSectorPieces g row image said reads held pieces → IfSome pieces (HasSectorPieces g) → length held ≡ g.sectors → n < g.sectors → slice_get image row ≡ Some p → record_of p ≡ Some r → key_of r ≡ key.Sector n
    → get_or said row None ≡ None → kept ≡ get_or held n kept
    → ((l d : Latest) (at : ℕ) → TellsHeld kept l d → TellsHeld new (step l at (Some r.sequence)) d)
    → ((l d : Latest) (at : ℕ) → TellsHeld kept l d → Moves change (Whole at) (place_by l d) (place_by (step l at (Some r.sequence)) d))
    → ShowsSectorPieces g (row + 1) image said reads (set held n new) (pieces_after change n (content_of_kind g r.kind p.body) (zeros g) pieces)
sound_noted g row image said reads held pieces p r n kept new change h sized size in_range is says same unsaid stood tells moves =
    let mark : get_or (marks image) row None ≡ Some r = mark-page image row p is ∙ says in
    let old : Latest = latest_below (marks image) (key.Sector n) row in
    let d : Latest = latest_below said (key.Sector n) row in
    let was : TellsHeld kept old d = held_was g row image said reads held pieces n kept h size in_range stood in
    let more : latest_below (marks image) (key.Sector n) (row + 1) ≡ step old row (Some r.sequence) = latest_here (marks image) row n r mark same in
    let still : latest_below said (key.Sector n) (row + 1) ≡ d = latest_other said (key.Sector n) row (sequence_at-none said (key.Sector n) row unsaid) in
    let here : content_in g image reads (Whole row) ≡ content_of_kind g r.kind p.body = ap (content g) is ∙ content-record g p r says in
    noted g row image said reads held pieces n new change (content_of_kind g r.kind p.body) (Whole row) h sized size in_range (others_none (marks image) row n r mark same) (λ m ne. sequence_at-none said (key.Sector m) row unsaid)
    (subst (λ l. TellsHeld new l (latest_below said (key.Sector n) (row + 1))) (sym more) (subst (λ l. TellsHeld new (step old row (Some r.sequence)) l) (sym still) (tells old d row was)))
    (subst (λ l. Moves change (Whole row) (place_by old d) (place_by l (latest_below said (key.Sector n) (row + 1)))) (sym more)
    (subst (λ l. Moves change (Whole row) (place_by old d) (place_by (step old row (Some r.sequence)) l)) (sym still) (moves old d row was)))
    here

-- one that is not sound and says sector n
pub said_noted : (g : Geometry) (row : ℕ) (image : Image) (said : List (Option Record)) (reads : ℕ → List ℕ) (held : List Held) (pieces : Option (List (List ℕ))) (r : Record) (bytes : List ℕ) (n : ℕ) (kept new : Held) (change : Change)
    → ShowsSectorPieces g row image said reads held pieces → IfSome pieces (HasSectorPieces g) → length held ≡ g.sectors → n < g.sectors → get_or (marks image) row None ≡ None → get_or said row None ≡ Some r → key_of r ≡ key.Sector n
    → reads row ≡ bytes → kept ≡ get_or held n kept
    → ((l d : Latest) (at : ℕ) → TellsHeld kept l d → TellsHeld new l (step d at (Some r.sequence)))
    → ((l d : Latest) (at : ℕ) → TellsHeld kept l d → Moves change (Broken at) (place_by l d) (place_by l (step d at (Some r.sequence))))
    → ShowsSectorPieces g (row + 1) image said reads (set held n new) (pieces_after change n bytes (zeros g) pieces)
said_noted g row image said reads held pieces r bytes n kept new change h sized size in_range unmarked mark same here stood tells moves =
    let l : Latest = latest_below (marks image) (key.Sector n) row in
    let old : Latest = latest_below said (key.Sector n) row in
    let was : TellsHeld kept l old = held_was g row image said reads held pieces n kept h size in_range stood in
    let more : latest_below said (key.Sector n) (row + 1) ≡ step old row (Some r.sequence) = latest_here said row n r mark same in
    let still : latest_below (marks image) (key.Sector n) (row + 1) ≡ l = latest_other (marks image) (key.Sector n) row (sequence_at-none (marks image) (key.Sector n) row unmarked) in
    noted g row image said reads held pieces n new change bytes (Broken row) h sized size in_range (λ m ne. sequence_at-none (marks image) (key.Sector m) row unmarked) (others_none said row n r mark same)
    (subst (λ x. TellsHeld new x (latest_below said (key.Sector n) (row + 1))) (sym still) (subst (λ x. TellsHeld new l x) (sym more) (tells l old row was)))
    (subst (λ x. Moves change (Broken row) (place_by l old) (place_by x (latest_below said (key.Sector n) (row + 1)))) (sym still)
    (subst (λ x. Moves change (Broken row) (place_by l old) (place_by l x)) (sym more) (moves l old row was)))
    here

-- ---- before the first page

pub nothing_yet : (g : Geometry) (image : Image) (said : List (Option Record)) (reads : ℕ → List ℕ) (pieces : Option (List (List ℕ))) → IfSome pieces (λ ps. ps ≡ replicate g.sectors (zeros g)) → ShowsSectorPieces g 0 image said reads (replicate g.sectors Never) pieces
nothing_yet g image said reads pieces blank = record {
  held_of = λ n within.
      subst (λ l. TellsHeld (get_or (replicate g.sectors Never) n Never) l (latest_below said (key.Sector n) 0)) (sym (latest_start (marks image) (key.Sector n)))
      (subst (λ l. TellsHeld (get_or (replicate g.sectors Never) n Never) latest.Never l) (sym (latest_start said (key.Sector n)))
      (subst (λ x. TellsHeld x latest.Never latest.Never) (sym (get_or-replicate g.sectors n Never Never within)) tt));
  pieces_are = if_more pieces (λ ps. ps ≡ replicate g.sectors (zeros g)) (ReadBelow g image said reads 0) blank (λ ps e n within.
      ap (λ xs. get_or xs n []) e ∙ (get_or-replicate g.sectors n (zeros g) [] within
      ∙ sym (ap (λ l. content_in g image reads (place_by l (latest_below said (key.Sector n) 0))) (latest_start (marks image) (key.Sector n))
      ∙ ap (λ l. content_in g image reads (place_by latest.Never l)) (latest_start said (key.Sector n)))));
}

pub stands_first : (g : Geometry) (pieces : Option (List (List ℕ))) → IfSome pieces (λ ps. ps ≡ replicate g.sectors (zeros g)) → WritingStands g (replicate g.sectors Never) (zeros g) pieces
stands_first g pieces blank = record {
  size = length-replicate g.sectors Never;
  blank_is = refl;
  sized = if_more pieces (λ ps. ps ≡ replicate g.sectors (zeros g)) (HasSectorPieces g) blank (λ ps e. ap length e ∙ length-replicate g.sectors (zeros g));
}

-- What a scan of all pages tells of a sector.
use Rattle.std.proofs.Common.{◌≡◌, ℕ, zero, suc, ◌+◌, ◌<◌, ◌≤◌, ◌↔◌, ◌⊎◌, inl, inr, true, false, List, length, replicate, get_or, Option, Some, None}
use Rattle.std.proofs.Common.{ltb, cond, arith, sym, ap, ◌∙◌, refl, subst}
use Rattle.std.specs.Prelude.{slice_get, IsSome, is_some}
use Rattle.std.proofs.lemmas.Bool.{cond_both, cases_eq, cases_lt, ltb-true, ltb-false}
use Rattle.page_layout.specs.declared.geometry.Geometry.{Geometry}
use Rattle.page_layout.specs.declared.record.Record.{Record}
use Rattle.page_layout.specs.declared.record.Kind.{Kind}
use Rattle.page_layout.specs.declared.record.Kind.TheVariants as kind
use Rattle.page_layout.specs.declared.record.Key.TheVariants as key
use Rattle.page_layout.specs.Key.{key_of, key_from}
use Rattle.page_layout.specs.Sound.{record_of}
use Rattle.page_layout.specs.declared.newest.Latest.{Latest}
use Rattle.page_layout.specs.declared.newest.Latest.TheVariants.{Never, Once, Tied}
use Rattle.page_layout.specs.Geometry.{row_count}
use Rattle.page_layout.specs.Page.{Page, Image, IsImage}
use Rattle.page_layout.specs.Flash.{Flash}
use Rattle.page_layout.specs.Greatest.{step, best}
use Rattle.page_layout.specs.Newest.{latest_below, sequence_at, sequence_of}
use Rattle.page_layout.specs.Array.{marks, zeros, content, content_of_kind, content_of_record, sector_of}
use Rattle.page_layout.proofs.GreatestLemmas.{Says, SaysOnce, SaysTied, best_says}
use Rattle.page_layout.proofs.NewestLemmas.{IsOf, sequence_of-is, sequence_at_past}
use Rattle.page_layout.proofs.ArrayLemmas.{sector_never, sector_once, scan_tied, scan_never, scan_once, mark-page, length-marks}
use Rattle.image_check.specs.Sector.{IsAmbiguous, IsBelow, SharesSequence}

-- a scan found the sector: no two of its pages share its greatest sequence, and it reads as these bytes
pub record IsFound (g : Geometry) (image : Image) (n : ℕ) (bytes : List ℕ) : Type 0 where
  pub untied : (a b : ℕ) → ¬ SharesSequence image n a b
  pub holds : bytes ≡ sector_of g image n

-- a sector that was found is not ambiguous
pub clear : (g : Geometry) (image : Image) (n : ℕ) (bytes : List ℕ) → IsFound g image n bytes → ⊥ ↔ IsAmbiguous g image n
clear g image n bytes found = (λ no. absurd no, λ two. found.untied two.first two.second two.shares)

-- of an image that has all rows of the geometry: what a scan found of a sector
pub none_found : (g : Geometry) (image : Image) (n : ℕ) → length image ≡ row_count g → Never ≡ latest_below (marks image) (key.Sector n) (row_count g) → IsFound g image n (zeros g)
none_found g image n size e = record {
  untied = scan_never image (key.Sector n) (row_count g) (sym size) e;
  holds = sym (sector_never g image n (row_count g) (sym size) e);
}

pub one_found : (g : Geometry) (image : Image) (n row t : ℕ) (p : Page) (bytes : List ℕ) → length image ≡ row_count g → Once row t ≡ latest_below (marks image) (key.Sector n) (row_count g) → slice_get image row ≡ Some p → bytes ≡ content g (Some p) → IsFound g image n bytes
one_found g image n row t p bytes size e is holds = record {
  untied = scan_once image (key.Sector n) (row_count g) row t (sym size) e;
  holds = holds ∙ sym (sector_once g image n (row_count g) row t p (sym size) e is);
}

pub two_found : (g : Geometry) (image : Image) (n a b t : ℕ) → length image ≡ row_count g → Tied a b t ≡ latest_below (marks image) (key.Sector n) (row_count g) → SharesSequence image n a b
two_found g image n a b t size e = scan_tied image (key.Sector n) (row_count g) a b t (sym size) e

-- two rows that share the greatest sequence make the sector ambiguous
pub ambiguous : (g : Geometry) (image : Image) (n a b : ℕ) → n < g.sectors → SharesSequence image n a b → Unit {0} ↔ IsAmbiguous g image n
ambiguous g image n a b within shares = (λ yes. record { in_range = within; first = a; second = b; shares = shares }, λ two. tt)

-- the same, as `sector` has the facts: `later` is the flash after the scan
rows_were : (g : Geometry) (flash later : Flash) → IsImage g later.image → later ≡ flash → length flash.image ≡ row_count g
rows_were g flash later whole same = sym (ap (λ s. length s.image) same) ∙ whole.rows

pub none_read : (g : Geometry) (flash later : Flash) (n : ℕ) (l : Latest) (bytes : List ℕ) → IsImage g later.image → later ≡ flash → l ≡ latest_below (marks flash.image) (key.Sector n) (row_count g) → l ≡ Never → bytes ≡ replicate g.data_bytes 0 → IsFound g flash.image n bytes
none_read g flash later n l bytes whole same e is filled =
    let found = none_found g flash.image n (rows_were g flash later whole same) (sym is ∙ e) in
    record { untied = found.untied; holds = filled ∙ found.holds }

pub one_read : (g : Geometry) (flash later : Flash) (n row t : ℕ) (l : Latest) (p : Page) (bytes : List ℕ) → IsImage g later.image → later ≡ flash
    → l ≡ latest_below (marks flash.image) (key.Sector n) (row_count g) → l ≡ Once row t → slice_get later.image row ≡ Some p
    → bytes ≡ content g (Some p) → IsFound g flash.image n bytes
one_read g flash later n row t l p bytes whole same e is at holds =
    one_found g flash.image n row t p bytes (rows_were g flash later whole same) (sym is ∙ e) (sym (ap (λ s. slice_get s.image row) same) ∙ at) holds

pub two_read : (g : Geometry) (flash later : Flash) (n a b t : ℕ) (l : Latest) → IsImage g later.image → later ≡ flash → l ≡ latest_below (marks flash.image) (key.Sector n) (row_count g) → l ≡ Tied a b t → SharesSequence flash.image n a b
two_read g flash later n a b t l whole same e is = two_found g flash.image n a b t (rows_were g flash later whole same) (sym is ∙ e)

-- ---- the page that is read once more

-- a page that is not lent reads as zeros where it is of the sector
pub not_held : (g : Geometry) (n : ℕ) (p : Page) (o : Option Record) → o ≡ record_of p → ((r : Record) → o ≡ Some r → r.kind ≡ kind.Sector → r.number ≡ n → ⊥)
    → IsSome (sequence_of (key.Sector n) (record_of p)) → zeros g ≡ content g (Some p)
unfolding content
not_held g n p o is other of_sector = by_record (record_of p) refl
  where
    by_kind : (r : Record) (k : Kind) → record_of p ≡ Some r → r.kind ≡ k → key_from k r.number ≡ key.Sector n → zeros g ≡ content_of_kind g k p.body
    by_kind r kind.Sector says e same = absurd (other r (is ∙ says) e (let whole : key.Sector r.number ≡ key.Sector n = same in cc))
    by_kind r kind.Trim says e same = refl
    by_kind r kind.Translation says e same = refl
    by_kind r kind.Table says e same = refl

    of_key : (m : Option Record) (o : Option ℕ) → sequence_of (key.Sector n) m ≡ o → IsSome o → (s : ℕ) × (sequence_of (key.Sector n) m ≡ Some s)
    of_key m None e h = absurd (let clash : false ≡ true = h in cc)
    of_key m (Some s) e h = (s, e)

    by_record : (m : Option Record) → record_of p ≡ m → zeros g ≡ content_of_record g m p.body
    by_record None says = refl
    by_record (Some r) says =
        let found = of_key (record_of p) (sequence_of (key.Sector n) (record_of p)) refl of_sector in
        let its : IsOf (key.Sector n) (record_of p) found.0 = sequence_of-is (key.Sector n) (record_of p) found.0 found.1 in
        let same : its.its ≡ r = (let both : Some its.its ≡ Some r = sym its.is ∙ says in cc) in
        by_kind r r.kind says refl (ap key_of (sym same) ∙ its.of_key)

pub held : (g : Geometry) (n : ℕ) (p : Page) (r : Record) → Some r ≡ record_of p → r.kind ≡ kind.Sector → p.body ≡ content g (Some p)
unfolding content
held g n p r is of_kind = rw (← is, of_kind) refl

-- the page of a row at which a scan found the sector's greatest sequence is of the sector
pub of_sector : (image : Image) (n rows row t : ℕ) (p : Page) → Once row t ≡ latest_below (marks image) (key.Sector n) rows → slice_get image row ≡ Some p
    → IsSome (sequence_of (key.Sector n) (record_of p))
unfolding latest_below sequence_at
of_sector image n rows row t p e at =
    let says = best_says (sequence_at (marks image) (key.Sector n)) rows in
    let P : Latest → Type 0 = λ l. Says (sequence_at (marks image) (key.Sector n)) rows l in
    let once : SaysOnce (sequence_at (marks image) (key.Sector n)) rows row t = subst P (sym e) says in
    let mark : get_or (marks image) row None ≡ record_of p = mark-page image row p at in
    ap is_some (sym (ap (sequence_of (key.Sector n)) mark) ∙ once.here)

-- ---- the two lowest rows

-- of the places below n at which f is t these two are the lowest
pub record AreLowest (f : ℕ → Option ℕ) (n a b t : ℕ) : Type 0 where
  pub order : a < b
  pub within : b < n
  pub greatest_value : (q s : ℕ) → q < n → f q ≡ Some s → s ≤ t
  pub apart : (q : ℕ) → q < n → f q ≡ Some t → (q ≡ a) ⊎ (b ≤ q)

-- f is t at this place alone
pub record IsAlone (f : ℕ → Option ℕ) (n a t : ℕ) : Type 0 where
  pub within : a < n
  pub greatest_value : (q s : ℕ) → q < n → f q ≡ Some s → s ≤ t
  pub alone : (q : ℕ) → q < n → f q ≡ Some t → q ≡ a

abbrev pub Lowest : (ℕ → Option ℕ) → ℕ → Latest → Type 0
Lowest f n Never = (q s : ℕ) → q < n → f q ≡ Some s → ⊥
Lowest f n (Once a t) = IsAlone f n a t
Lowest f n (Tied a b t) = AreLowest f n a b t

-- what is so of each place below n and of n is so of each below n + 1
below_or_here : (P : ℕ → Type 0) (n q : ℕ) → q < suc n → (q < n → P q) → P n → P q
below_or_here P n q l before here = elim (cases_eq q n) [
  | inl same ↦ subst P (sym same) here
  | inr other ↦ before (omega arith)
]

value_at : (f : ℕ → Option ℕ) (n s v : ℕ) → f n ≡ Some s → f n ≡ Some v → v ≡ s
value_at f n s v e at = (let both : Some v ≡ Some s = sym at ∙ e in cc)

lowest_none : (f : ℕ → Option ℕ) (n : ℕ) (l : Latest) → f n ≡ None → Lowest f n l → Lowest f (suc n) l
lowest_none f n Never e h = λ q s l at. below_or_here (λ k. f k ≡ Some s → ⊥) n q l (λ below. h q s below) (λ here. (let clash : None ≡ Some s = sym e ∙ here in cc)) at
lowest_none f n (Once a t) e h = record {
  within = let w = h.within in omega arith;
  greatest_value = λ q s l at. below_or_here (λ k. f k ≡ Some s → s ≤ t) n q l (λ below. h.greatest_value q s below) (λ here. absurd (let clash : None ≡ Some s = sym e ∙ here in cc)) at;
  alone = λ q l at. below_or_here (λ k. f k ≡ Some t → k ≡ a) n q l (λ below. h.alone q below) (λ here. absurd (let clash : None ≡ Some t = sym e ∙ here in cc)) at;
}
lowest_none f n (Tied a b t) e h = record {
  order = h.order;
  within = let w = h.within in omega arith;
  greatest_value = λ q s l at. below_or_here (λ k. f k ≡ Some s → s ≤ t) n q l (λ below. h.greatest_value q s below) (λ here. absurd (let clash : None ≡ Some s = sym e ∙ here in cc)) at;
  apart = λ q l at. below_or_here (λ k. f k ≡ Some t → (k ≡ a) ⊎ (b ≤ k)) n q l (λ below. h.apart q below) (λ here. absurd (let clash : None ≡ Some t = sym e ∙ here in cc)) at;
}

-- a value greater than all before it stands alone
lowest_new : (f : ℕ → Option ℕ) (n s : ℕ) → f n ≡ Some s → ((q v : ℕ) → q < n → f q ≡ Some v → v < s) → IsAlone f (suc n) n s
lowest_new f n s e low = record {
  within = omega arith;
  greatest_value = λ q v l at. below_or_here (λ k. f k ≡ Some v → v ≤ s) n q l (λ below here. (let less = low q v below here in omega arith)) (λ here. (let same = value_at f n s v e here in omega arith)) at;
  alone = λ q l at. below_or_here (λ k. f k ≡ Some s → k ≡ n) n q l (λ below here. (let less = low q s below here in absurd (omega arith))) (λ here. refl) at;
}

lowest_some : (f : ℕ → Option ℕ) (n s : ℕ) (l : Latest) → f n ≡ Some s → Lowest f n l → Lowest f (suc n) (step l n (Some s))
lowest_some f n s Never e h = lowest_new f n s e (λ q v l at. absurd (h q v l at))
lowest_some f n s (Once a t) e h =
    let P : Latest → Type 0 = λ x. Lowest f (suc n) x in
    cond_both (ltb t s) (Once n s) (cond (ltb s t) (Once a t) (Tied a n t)) P
    (λ more. lowest_new f n s e (λ q v l at. (let most = h.greatest_value q v l at in let over = ltb-true t s more in omega arith)))
    (λ most. cond_both (ltb s t) (Once a t) (Tied a n t) P (λ less. kept (ltb-true s t less)) (λ no_less. tied (ltb-false t s most) (ltb-false s t no_less)))
  where
    kept : s < t → IsAlone f (suc n) a t
    kept less = record {
      within = let w = h.within in omega arith;
      greatest_value = λ q v l at. below_or_here (λ k. f k ≡ Some v → v ≤ t) n q l (λ below. h.greatest_value q v below) (λ here. (let same = value_at f n s v e here in omega arith)) at;
      alone = λ q l at. below_or_here (λ k. f k ≡ Some t → k ≡ a) n q l (λ below. h.alone q below) (λ here. absurd (let same = value_at f n s t e here in omega arith)) at;
    }

    tied : s ≤ t → t ≤ s → AreLowest f (suc n) a n t
    tied most least = record {
      order = h.within;
      within = omega arith;
      greatest_value = λ q v l at. below_or_here (λ k. f k ≡ Some v → v ≤ t) n q l (λ below. h.greatest_value q v below) (λ here. (let same = value_at f n s v e here in omega arith)) at;
      apart = λ q l at. below_or_here (λ k. f k ≡ Some t → (k ≡ a) ⊎ (n ≤ k)) n q l (λ below here. inl (h.alone q below here)) (λ here. inr (omega arith)) at;
    }
lowest_some f n s (Tied a b t) e h =
    let P : Latest → Type 0 = λ x. Lowest f (suc n) x in
    cond_both (ltb t s) (Once n s) (Tied a b t) P
    (λ more. lowest_new f n s e (λ q v l at. (let most = h.greatest_value q v l at in let over = ltb-true t s more in omega arith)))
    (λ most. kept (ltb-false t s most))
  where
    kept : s ≤ t → AreLowest f (suc n) a b t
    kept most = record {
      order = h.order;
      within = let w = h.within in omega arith;
      greatest_value = λ q v l at. below_or_here (λ k. f k ≡ Some v → v ≤ t) n q l (λ below. h.greatest_value q v below) (λ here. (let same = value_at f n s v e here in omega arith)) at;
      apart = λ q l at. below_or_here (λ k. f k ≡ Some t → (k ≡ a) ⊎ (b ≤ k)) n q l (λ below. h.apart q below) (λ here. inr (let w = h.within in omega arith)) at;
    }

lowest_more : (f : ℕ → Option ℕ) (n : ℕ) (l : Latest) (o : Option ℕ) → f n ≡ o → Lowest f n l → Lowest f (suc n) (step l n o)
lowest_more f n l None e h = lowest_none f n l e h
lowest_more f n l (Some s) e h = lowest_some f n s l e h

lowest_of : (f : ℕ → Option ℕ) (n : ℕ) → Lowest f n (best f n)
unfolding best
lowest_of f zero = λ q s l at. absurd (omega arith)
lowest_of f (suc n) = lowest_more f n (best f n) (f n) refl (lowest_of f n)

-- no two rows that share the sector's greatest sequence are lower than those that a scan names
pub lowest_found : (g : Geometry) (image : Image) (n a b t : ℕ) → length image ≡ row_count g → Tied a b t ≡ latest_below (marks image) (key.Sector n) (row_count g)
    → (c d : ℕ) → SharesSequence image n c d → (a ≤ c) × (b ≤ d)
unfolding latest_below
lowest_found g image n a b t size e c d shares =
    let f : ℕ → Option ℕ = sequence_at (marks image) (key.Sector n) in
    let P : Latest → Type 0 = λ l. Lowest f (row_count g) l in
    let lowest : AreLowest f (row_count g) a b t = subst P (sym e) (lowest_of f (row_count g)) in
    let tie = two_found g image n a b t size e in
    let in_rows : (q s : ℕ) → f q ≡ Some s → q < row_count g = λ q s at. within q s (cases_lt q (row_count g)) at in
    let same : shares.value ≡ t = (
    let first = (says_tied).at_first in
    let most = lowest.greatest_value c shares.value (in_rows c shares.value shares.at_first) shares.at_first in
    let least = shares.greatest_value a t first in omega arith) in
    let low = lowest.apart c (in_rows c shares.value shares.at_first) (shares.at_first ∙ ap Some same) in
    let high = lowest.apart d (in_rows d shares.value shares.at_second) (shares.at_second ∙ ap Some same) in
    let order = shares.order in
    let first = lowest.order in
    by_place low high order first
  where
    f : ℕ → Option ℕ
    f = sequence_at (marks image) (key.Sector n)

    says_tied : SaysTied f (row_count g) a b t
    says_tied = let P : Latest → Type 0 = λ l. Says f (row_count g) l in subst P (sym e) (best_says f (row_count g))

    within : (q s : ℕ) → (q < row_count g) ⊎ (row_count g ≤ q) → f q ≡ Some s → q < row_count g
    within q s (inl below) at = below
    within q s (inr past) at =
        absurd (let none = (sequence_at_past (marks image) (key.Sector n)).all q (omega (arith, length-marks image, size)) in let clash : None ≡ Some s = sym none ∙ at in cc)

    by_place : (c ≡ a) ⊎ (b ≤ c) → (d ≡ a) ⊎ (b ≤ d) → c < d → a < b → (a ≤ c) × (b ≤ d)
    by_place (inl is) (inl also) order first = absurd (omega arith)
    by_place (inl is) (inr over) order first = (omega arith, over)
    by_place (inr past) (inl is) order first = absurd (omega arith)
    by_place (inr past) (inr over) order first = (omega arith, over)

-- the same two, as `sector` has the facts
pub read_of_sector : (flash later : Flash) (n rows row t : ℕ) (l : Latest) (p : Page) → later ≡ flash → l ≡ latest_below (marks flash.image) (key.Sector n) rows → l ≡ Once row t → slice_get later.image row ≡ Some p
    → IsSome (sequence_of (key.Sector n) (record_of p))
read_of_sector flash later n rows row t l p same e is at = of_sector flash.image n rows row t p (sym is ∙ e) (sym (ap (λ s. slice_get s.image row) same) ∙ at)

pub lowest_read : (g : Geometry) (flash later : Flash) (n a b t : ℕ) (l : Latest) → IsImage g later.image → later ≡ flash → l ≡ latest_below (marks flash.image) (key.Sector n) (row_count g) → l ≡ Tied a b t
    → (c d : ℕ) → SharesSequence flash.image n c d → (a ≤ c) × (b ≤ d)
lowest_read g flash later n a b t l whole same e is = lowest_found g flash.image n a b t (rows_were g flash later whole same) (sym is ∙ e)

-- one more row
pub step_below : (l : Latest) (row : ℕ) (o : Option ℕ) → IsBelow row l → IsBelow (row + 1) (step l row o)
step_below Never row None h = tt
step_below (Once q t) row None h = omega arith
step_below (Tied a b t) row None h = (omega arith, omega arith)
step_below Never row (Some s) h = omega arith
step_below (Once q t) row (Some s) h =
    let P : Latest → Type 0 = λ x. IsBelow (row + 1) x in
    cond_both (ltb t s) (Once row s) (cond (ltb s t) (Once q t) (Tied q row t)) P
    (λ e. omega arith) (λ e. cond_both (ltb s t) (Once q t) (Tied q row t) P (λ d. omega arith) (λ d. (omega arith, omega arith)))
step_below (Tied a b t) row (Some s) h =
    let P : Latest → Type 0 = λ x. IsBelow (row + 1) x in
    cond_both (ltb t s) (Once row s) (Tied a b t) P (λ e. omega arith) (λ e. (omega arith, omega arith))

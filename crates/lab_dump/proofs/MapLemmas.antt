-- The areas of a map.
use Rattle.std.proofs.Common.{◌≡◌, ◌≢◌, ◌⊎◌, inl, inr, ℕ, zero, suc, ◌+◌, ◌*◌, ◌-◌, ◌<◌, ◌≤◌, Bool, true, false, not, ◌||◌, List, [], ◌∷◌, ◌++◌, length, get_or, Option, OnOk, Result, Ok, Err, refl, sym, ap, subst, ◌∙◌, arith, Decides}
use Rattle.std.specs.Prelude.{◌↔◌, if◌then◌else◌}
use Rattle.std.specs.Io.KnownBytes.{Appends}
use Rattle.std.proofs.KnownBytes.{Appends-nil, Appends-trans}
use Rattle.std.proofs.lemmas.Bool.{cases_eq, false≢true}
use Rattle.std.proofs.lemmas.Bool.Decides.{Decides-eqb}
use Rattle.page_layout.specs.declared.geometry.Geometry.{Geometry}
use Rattle.lab_dump.specs.declared.mark.MapMark.{MapMark}
use Rattle.lab_dump.specs.declared.mark.MapMark.TheVariants.{Untried, Finished, Mended, Bad}
use Rattle.lab_dump.specs.Map.{AreAreas, IsAreaTo, area_line, area_words, areas_below, ends_at, first_in_area, is_like}

-- ---- sectors that are marked alike

pub like_same : (a b : MapMark) → is_like a b ≡ true → a ≡ b
like_same Untried Untried e = refl
like_same Finished Finished e = refl
like_same Mended Mended e = refl
like_same Bad Bad e = refl
like_same Untried Finished e = absurd (false≢true e)
like_same Untried Mended e = absurd (false≢true e)
like_same Untried Bad e = absurd (false≢true e)
like_same Finished Untried e = absurd (false≢true e)
like_same Finished Mended e = absurd (false≢true e)
like_same Finished Bad e = absurd (false≢true e)
like_same Mended Untried e = absurd (false≢true e)
like_same Mended Finished e = absurd (false≢true e)
like_same Mended Bad e = absurd (false≢true e)
like_same Bad Untried e = absurd (false≢true e)
like_same Bad Finished e = absurd (false≢true e)
like_same Bad Mended e = absurd (false≢true e)

pub like_self : (a : MapMark) → is_like a a ≡ true
like_self Untried = refl
like_self Finished = refl
like_self Mended = refl
like_self Bad = refl

pub unlike : (a b : MapMark) → b ≢ a → not (is_like a b) ≡ true
unlike Untried Untried ne = absurd (ne refl)
unlike Finished Finished ne = absurd (ne refl)
unlike Mended Mended ne = absurd (ne refl)
unlike Bad Bad ne = absurd (ne refl)
unlike Untried Finished ne = refl
unlike Untried Mended ne = refl
unlike Untried Bad ne = refl
unlike Finished Untried ne = refl
unlike Finished Mended ne = refl
unlike Finished Bad ne = refl
unlike Mended Untried ne = refl
unlike Mended Finished ne = refl
unlike Mended Bad ne = refl
unlike Bad Untried ne = refl
unlike Bad Finished ne = refl
unlike Bad Mended ne = refl

or_false : (t s : Bool) → (t || not s) ≡ false → s ≡ true
or_false true s e = absurd (false≢true (sym e))
or_false false true e = refl
or_false false false e = absurd (false≢true (sym e))

-- no area ends between two sectors that are marked alike
still_alike : (marks : List MapMark) (n : ℕ) → ends_at marks n ≡ false → get_or marks n Untried ≡ get_or marks (n + 1) Untried
still_alike marks n e = like_same _ _ (or_false _ (is_like (get_or marks n Untried) (get_or marks (n + 1) Untried)) e)

end_is : (t : Bool) (a b : MapMark) (P : Type 0) → Decides t P → ((t || not (is_like a b)) ≡ true) ↔ (P ⊎ (b ≢ a))
end_is true a b P d = (λ e. inl (d.0 refl), λ w. refl)
end_is false a b P d = (
  λ e. inr (λ same. false≢true (ap not (sym (subst (λ x. is_like a x ≡ true) (sym same) (like_self a))) ∙ e)),
  λ w. elim w [
    | inl p ↦ absurd (false≢true (d.1 p))
    | inr ne ↦ unlike a b ne
  ],
)

-- ---- where an area begins

pub first_zero : (marks : List MapMark) → first_in_area marks 0 ≡ 0
unfolding first_in_area
first_zero marks = refl

pub first_after : (marks : List MapMark) (n : ℕ) → ends_at marks n ≡ true → first_in_area marks (n + 1) ≡ n + 1
unfolding first_in_area
first_after marks n e =
    let next : n + 1 ≡ suc n = omega arith in
    ap (first_in_area marks) next ∙ (ap (λ (b : Bool). if b then suc n else first_in_area marks n) e ∙ sym next)

pub first_still : (marks : List MapMark) (n : ℕ) → ends_at marks n ≡ false → first_in_area marks (n + 1) ≡ first_in_area marks n
unfolding first_in_area
first_still marks n e =
    let next : n + 1 ≡ suc n = omega arith in
    ap (first_in_area marks) next ∙ ap (λ (b : Bool). if b then suc n else first_in_area marks n) e

at_same : (marks : List MapMark) (m n : ℕ) → m ≡ n → get_or marks m Untried ≡ get_or marks n Untried
at_same marks m n e = ap (λ (k : ℕ). get_or marks k Untried) e

area_new : (marks : List MapMark) (n : ℕ) → (n ≡ 0) ⊎ ((before : ℕ) × (n ≡ before + 1) × (ends_at marks before ≡ true)) → IsAreaTo marks n n
area_new marks n front = record {
  rising = omega arith;
  alike = λ m low high. at_same marks m n (omega arith);
  front = front;
  one = λ m low high. absurd (omega arith);
}

area_more : (marks : List MapMark) (n : ℕ) → ends_at marks n ≡ false → IsAreaTo marks (first_in_area marks n) n → IsAreaTo marks (first_in_area marks n) (n + 1)
area_more marks n e h = record {
  rising = (let low = h.rising in omega arith);
  alike = λ m low high. elim (cases_eq m (n + 1)) [
    | inl same ↦ at_same marks m (n + 1) same
    | inr ne ↦ h.alike m low (omega arith) ∙ still_alike marks n e
  ];
  front = h.front;
  one = λ m low high. elim (cases_eq m n) [
    | inl same ↦ ap (ends_at marks) same ∙ e
    | inr ne ↦ h.one m low (omega arith)
  ];
}

area_next : (marks : List MapMark) (n : ℕ) (b : Bool) → ends_at marks n ≡ b → IsAreaTo marks (first_in_area marks n) n → IsAreaTo marks (first_in_area marks (n + 1)) (n + 1)
area_next marks n true e h = subst (λ (f : ℕ). IsAreaTo marks f (n + 1)) (sym (first_after marks n e)) (area_new marks (n + 1) (inr (n, refl, e)))
area_next marks n false e h = subst (λ (f : ℕ). IsAreaTo marks f (n + 1)) (sym (first_still marks n e)) (area_more marks n e h)

area_to : (marks : List MapMark) (n : ℕ) → IsAreaTo marks (first_in_area marks n) n
area_to marks zero = subst (λ (f : ℕ). IsAreaTo marks f 0) (sym (first_zero marks)) (area_new marks 0 (inl refl))
area_to marks (suc n) =
    let next : n + 1 ≡ suc n = omega arith in
    subst (λ (k : ℕ). IsAreaTo marks (first_in_area marks k) k) next (area_next marks n (ends_at marks n) refl (area_to marks n))

pub first_low : (marks : List MapMark) (n : ℕ) → first_in_area marks n ≤ n
first_low marks n = (area_to marks n).rising

pub are_areas : (marks : List MapMark) (n : ℕ) → n < length marks → AreAreas marks n
are_areas marks n within = record {
  area = area_to marks n;
  end = end_is _ _ _ (n + 1 ≡ length marks) (Decides-eqb (n + 1) (length marks));
}

-- ---- the lines

pub below_none : (g : Geometry) (marks : List MapMark) (a : Option (List ℕ)) → Appends a a (areas_below g marks 0)
unfolding areas_below
below_none g marks a = Appends-nil a

pub below_more : (g : Geometry) (marks : List MapMark) (n : ℕ) → areas_below g marks n ++ area_line g marks n ≡ areas_below g marks (n + 1)
unfolding areas_below
below_more g marks n = let next : suc n ≡ n + 1 = omega arith in ap (areas_below g marks) next

pub line_none : (g : Geometry) (marks : List MapMark) (n : ℕ) → ends_at marks n ≡ false → area_line g marks n ≡ []
line_none g marks n e = ap (λ (b : Bool). if b then area_words (first_in_area marks n * g.data_bytes) ((n + 1 - first_in_area marks n) * g.data_bytes) (get_or marks n Untried) ++ (10 ∷ []) else []) e

pub line_some : (g : Geometry) (marks : List MapMark) (n : ℕ) → ends_at marks n ≡ true → area_line g marks n ≡ area_words (first_in_area marks n * g.data_bytes) ((n + 1 - first_in_area marks n) * g.data_bytes) (get_or marks n Untried) ++ (10 ∷ [])
line_some g marks n e = ap (λ (b : Bool). if b then area_words (first_in_area marks n * g.data_bytes) ((n + 1 - first_in_area marks n) * g.data_bytes) (get_or marks n Untried) ++ (10 ∷ []) else []) e

pub line_is : (g : Geometry) (marks : List MapMark) (n first position size : ℕ) (mark : MapMark) → ends_at marks n ≡ true → first ≡ first_in_area marks n → position ≡ first * g.data_bytes → size ≡ (n + 1 - first) * g.data_bytes → mark ≡ get_or marks n Untried
    → area_words position size mark ++ (10 ∷ []) ≡ area_line g marks n
line_is g marks n first position size mark e is at long marked =
    let d = g.data_bytes in
    let top = first_in_area marks n in
    ap (λ (p : ℕ). area_words p size mark ++ (10 ∷ [])) (at ∙ ap (λ (f : ℕ). f * d) is)
    ∙ (ap (λ (z : ℕ). area_words (top * d) z mark ++ (10 ∷ [])) (long ∙ ap (λ (f : ℕ). (n + 1 - f) * d) is)
    ∙ (ap (λ (s : MapMark). area_words (top * d) ((n + 1 - top) * d) s ++ (10 ∷ [])) marked ∙ sym (line_some g marks n e)))

-- what was printed before the last print
pub then_last : {X Y : Type 0} (a b d : Option (List ℕ)) (xs ys : List ℕ) (r : Result X Y) → Appends a b xs → OnOk r (Appends b d ys) → OnOk r (Appends a d (xs ++ ys))
then_last a b d xs ys (Ok x) first last = Appends-trans a b d xs ys first last
then_last a b d xs ys (Err e) first last = tt

-- The counts of what was wrong with reads.
use Rattle.std.proofs.Common.{◌≡◌, ◌≢◌, ℕ, ◌+◌, ◌-◌, ◌/◌, ◌^◌, ◌<◌, ◌≤◌, Bool, true, false, cond, eqb, leb, List, length, set, get_or, refl, sym, ap, ◌∙◌, subst, arith}
use Rattle.std.proofs.lemmas.List.{get_or-set_same, get_or-set_other, get_or_past}
use Rattle.std.proofs.lemmas.Bool.Decides.{nat_tests}
use Rattle.error_correction.proofs.Apart.{apart_self}
use Rattle.page_code.specs.Layout.{coded}
use Rattle.page_layout.specs.declared.geometry.Geometry.{Geometry}
use Rattle.page_layout.specs.Page.{Page}
use Rattle.page_code.specs.Wrong.{bits_wrong}
use Rattle.corrected_nand.specs.Shown.{is_shown}
use Rattle.corrected_nand.specs.Errors.{Errors, raised, with_more_turned, with_lost}
use Rattle.corrected_nand.specs.Corrected.{after_read}
use Rattle.corrected_nand.specs.Laws.{RaisesTurned, RaisesLost, KeepsTopCounts, CleanLaw, RaisesTurnedLaw, RaisesLostLaw, StaysAtTopLaw}

-- what is counted of a page that is shown, and of one that is lost
pub after_shown : (g : Geometry) (row : ℕ) (put shown : Page) (e : Errors) → is_shown shown ≡ true → after_read g row put shown e ≡ with_more_turned e (row / g.pages) (bits_wrong g shown put)
unfolding after_read
after_shown g row put shown e is = ap (λ (b : Bool). cond b (with_more_turned e (row / g.pages) (bits_wrong g shown put)) (with_lost e (row / g.pages))) is

pub after_lost : (g : Geometry) (row : ℕ) (put shown : Page) (e : Errors) → is_shown shown ≡ false → after_read g row put shown e ≡ with_lost e (row / g.pages)
unfolding after_read
after_lost g row put shown e is = ap (λ (b : Bool). cond b (with_more_turned e (row / g.pages) (bits_wrong g shown put)) (with_lost e (row / g.pages))) is

-- as a read counts them
pub counts_shown : (g : Geometry) (row block bits : ℕ) (put shown : Page) (e e' : Errors) → is_shown shown ≡ true → e' ≡ with_more_turned e block bits → block ≡ row / g.pages → bits ≡ bits_wrong g shown put → e' ≡ after_read g row put shown e
counts_shown g row block bits put shown e e' is made at wrong =
    made ∙ (ap (λ k. with_more_turned e k bits) at ∙ (ap (λ n. with_more_turned e (row / g.pages) n) wrong ∙ sym (after_shown g row put shown e is)))

pub counts_lost : (g : Geometry) (row block : ℕ) (put shown : Page) (e e' : Errors) → is_shown shown ≡ false → e' ≡ with_lost e block → block ≡ row / g.pages → e' ≡ after_read g row put shown e
counts_lost g row block put shown e e' is made at = made ∙ (ap (λ k. with_lost e k) at ∙ sym (after_lost g row put shown e is))

-- ---- what that comes to

raised_below : (count more : ℕ) → count + more < 2 ^ 64 → raised count more ≡ count + more
raised_below count more h = omega arith

raised_top : (count more : ℕ) → count ≡ 2 ^ 64 - 1 → raised count more ≡ 2 ^ 64 - 1
raised_top count more h = omega arith

raised_in : (xs : List ℕ) (b more : ℕ) → b < length xs → get_or xs b 0 + more < 2 ^ 64 → get_or (set xs b (raised (get_or xs b 0) more)) b 0 ≡ get_or xs b 0 + more
raised_in xs b more h l = get_or-set_same xs b (raised (get_or xs b 0) more) 0 h ∙ raised_below (get_or xs b 0) more l

top_in : (xs : List ℕ) (b more k : ℕ) → get_or xs k 0 ≡ 2 ^ 64 - 1 → get_or (set xs b (raised (get_or xs b 0) more)) k 0 ≡ 2 ^ 64 - 1
top_in xs b more k h = by (eqb k b) refl
  where
    inside : (t : Bool) → leb (length xs) k ≡ t → k < length xs
    inside true e = let l : length xs ≤ k = grind (arith, nat_tests) in let z = get_or_past xs k 0 l in absurd (omega arith)
    inside false e = grind (arith, nat_tests)

    by : (t : Bool) → eqb k b ≡ t → get_or (set xs b (raised (get_or xs b 0) more)) k 0 ≡ 2 ^ 64 - 1
    by true e =
        let same : k ≡ b = grind (arith, nat_tests) in
        let l : k < length xs = inside (leb (length xs) k) refl in
        ap (λ n. get_or (set xs b (raised (get_or xs b 0) more)) n 0) same
        ∙ (get_or-set_same xs b (raised (get_or xs b 0) more) 0 (omega arith) ∙ raised_top (get_or xs b 0) more (ap (λ n. get_or xs n 0) (sym same) ∙ h))
    by false e = let ne : k ≢ b = grind (arith, nat_tests) in get_or-set_other xs b k (raised (get_or xs b 0) more) 0 ne ∙ h

turned_raises : (g : Geometry) (row bits : ℕ) (e : Errors) → row / g.pages < length e.turned_in → RaisesTurned g row bits e (with_more_turned e (row / g.pages) bits)
turned_raises g row bits e h = record {
  all = raised_below e.turned bits;
  block = raised_in e.turned_in (row / g.pages) bits h;
  others = λ k ne. get_or-set_other e.turned_in (row / g.pages) k (raised (get_or e.turned_in (row / g.pages) 0) bits) 0 ne;
  lost = refl;
  lost_in = refl;
}

pub turned_law : RaisesTurnedLaw
turned_law g row put shown e h is = subst (λ x. RaisesTurned g row (bits_wrong g shown put) e x) (sym (after_shown g row put shown e is)) (turned_raises g row (bits_wrong g shown put) e h)

lost_raises : (g : Geometry) (row : ℕ) (e : Errors) → row / g.pages < length e.lost_in → RaisesLost g row e (with_lost e (row / g.pages))
lost_raises g row e h = record {
  all = raised_below e.lost 1;
  block = raised_in e.lost_in (row / g.pages) 1 h;
  others = λ k ne. get_or-set_other e.lost_in (row / g.pages) k (raised (get_or e.lost_in (row / g.pages) 0) 1) 0 ne;
  turned = refl;
  turned_in = refl;
}

pub lost_law : RaisesLostLaw
lost_law g row put shown e h is = subst (λ x. RaisesLost g row e x) (sym (after_lost g row put shown e is)) (lost_raises g row e h)

turned_stays : (e : Errors) (block bits : ℕ) → KeepsTopCounts e (with_more_turned e block bits)
turned_stays e block bits = record { turned = raised_top e.turned bits; lost = λ h. h; turned_in = λ k h. top_in e.turned_in block bits k h; lost_in = λ k h. h }

lost_stays : (e : Errors) (block : ℕ) → KeepsTopCounts e (with_lost e block)
lost_stays e block = record { turned = λ h. h; lost = raised_top e.lost 1; turned_in = λ k h. h; lost_in = λ k h. top_in e.lost_in block 1 k h }

pub top_law : StaysAtTopLaw
top_law g row put shown e = by (is_shown shown) refl
  where
    by : (b : Bool) → is_shown shown ≡ b → KeepsTopCounts e (after_read g row put shown e)
    by true is = subst (λ x. KeepsTopCounts e x) (sym (after_shown g row put shown e is)) (turned_stays e (row / g.pages) (bits_wrong g shown put))
    by false is = subst (λ x. KeepsTopCounts e x) (sym (after_lost g row put shown e is)) (lost_stays e (row / g.pages))

pub clean_law : CleanLaw
unfolding bits_wrong
clean_law g p = omega (arith, apart_self (coded g p).body, apart_self (coded g p).spare)

-- The place at which a partial function is greatest, found by looking at one place after another.
use Rattle.std.proofs.Common.{◌≡◌, ◌≢◌, ℕ, zero, suc, ◌+◌, add-one, ◌<◌, ◌≤◌, ◌⊎◌, inl, inr, cond, ltb, Option, Some, None, refl, ap, sym, ◌∙◌, subst, arith}
use Rattle.std.proofs.lemmas.Bool.{cases_eq, cases_lt, ltb-true, ltb-false, cond_both}
use Rattle.page_layout.specs.Greatest.{IsGreatest, SharesGreatest, step, best, place_of, greatest, Describes}
use Rattle.page_layout.specs.declared.newest.Latest.{Latest}
use Rattle.page_layout.specs.declared.newest.Latest.TheVariants.{Never, Once, Tied}

-- what `best f n` says of f below n
pub record SaysNever (f : ℕ → Option ℕ) (n : ℕ) : Type 0 where
  pub all : (q : ℕ) → q < n → f q ≡ None

pub record SaysOnce (f : ℕ → Option ℕ) (n place t : ℕ) : Type 0 where
  pub within : place < n
  pub here : f place ≡ Some t
  pub others : (q s : ℕ) → q < n → q ≢ place → f q ≡ Some s → s < t

pub record SaysTied (f : ℕ → Option ℕ) (n first second t : ℕ) : Type 0 where
  pub order : first < second
  pub within : second < n
  pub at_first : f first ≡ Some t
  pub at_second : f second ≡ Some t
  pub all : (q s : ℕ) → q < n → f q ≡ Some s → s ≤ t

abbrev pub Says : (ℕ → Option ℕ) → ℕ → Latest → Type 0
Says f n Never = SaysNever f n
Says f n (Once place t) = SaysOnce f n place t
Says f n (Tied a b t) = SaysTied f n a b t

-- one place more
step_none : (f : ℕ → Option ℕ) (n : ℕ) (b : Latest) → f n ≡ None → Says f n b → Says f (suc n) b
step_none f n Never e h = record { all = λ q l. grind (arith, e, h.all) }
step_none f n (Once place t) e h = record {
  within = omega arith;
  here = h.here;
  others = λ q s l ne at. grind (arith, e, h.others);
}
step_none f n (Tied a b t) e h = record {
  order = h.order;
  within = omega arith;
  at_first = h.at_first;
  at_second = h.at_second;
  all = λ q s l at. grind (arith, e, h.all);
}

none_greater : (f : ℕ → Option ℕ) (n s : ℕ) → f n ≡ Some s → ((q t : ℕ) → q < n → f q ≡ Some t → t < s) → SaysOnce f (suc n) n s
none_greater f n s e low = record {
  within = omega arith;
  here = e;
  others = λ q t l ne at. let below : q < n = omega arith in low q t below at;
}

first_some : (f : ℕ → Option ℕ) (n s : ℕ) → f n ≡ Some s → SaysNever f n → SaysOnce f (suc n) n s
first_some f n s e h = none_greater f n s e (λ q t l at. absurd (none_is (h.all q l) at))
  where
    none_is : {o : Option ℕ} {t : ℕ} → o ≡ None → o ≡ Some t → ⊥
    none_is a b = cc

once_greater : (f : ℕ → Option ℕ) (n s place t : ℕ) → f n ≡ Some s → SaysOnce f n place t → t < s → SaysOnce f (suc n) n s
once_greater f n s place t e h lt =
    none_greater f n s e (λ q v l at. elim (cases_eq q place) [
      | inl same ↦ grind (arith, same, at, h.here)
      | inr other ↦ omega (arith, h.others q v l other at)
    ])

once_less : (f : ℕ → Option ℕ) (n s place t : ℕ) → f n ≡ Some s → SaysOnce f n place t → s < t → SaysOnce f (suc n) place t
once_less f n s place t e h lt = record {
  within = omega arith;
  here = h.here;
  others = λ q v l ne at. elim (cases_eq q n) [
    | inl same ↦ grind (arith, same, at, e)
    | inr other ↦ let below : q < n = omega arith in h.others q v below ne at
  ];
}

once_same : (f : ℕ → Option ℕ) (n s place t : ℕ) → f n ≡ Some s → SaysOnce f n place t → s ≡ t → SaysTied f (suc n) place n t
once_same f n s place t e h same = record {
  order = h.within;
  within = omega arith;
  at_first = h.here;
  at_second = e ∙ ap Some same;
  all = λ q v l at. elim (cases_eq q place) [
    | inl p ↦ grind (arith, p, at, h.here)
    | inr ne ↦ elim (cases_eq q n) [
      | inl p ↦ grind (arith, p, at, e)
      | inr other ↦ let below : q < n = omega arith in omega (arith, h.others q v below ne at)
    ]
  ];
}

tied_greater : (f : ℕ → Option ℕ) (n s a b t : ℕ) → f n ≡ Some s → SaysTied f n a b t → t < s → SaysOnce f (suc n) n s
tied_greater f n s a b t e h lt = none_greater f n s e (λ q v l at. omega (arith, h.all q v l at))

tied_more : (f : ℕ → Option ℕ) (n s a b t : ℕ) → f n ≡ Some s → SaysTied f n a b t → s ≤ t → SaysTied f (suc n) a b t
tied_more f n s a b t e h le = record {
  order = h.order;
  within = omega arith;
  at_first = h.at_first;
  at_second = h.at_second;
  all = λ q v l at. elim (cases_eq q n) [
    | inl p ↦ grind (arith, p, at, e)
    | inr other ↦ let below : q < n = omega arith in h.all q v below at
  ];
}

pub step_some : (f : ℕ → Option ℕ) (n s : ℕ) (b : Latest) → f n ≡ Some s → Says f n b → Says f (suc n) (step b n (Some s))
step_some f n s Never e h = first_some f n s e h
step_some f n s (Once place t) e h =
    let P : Latest → Type 0 = λ l. Says f (suc n) l in
    cond_both (ltb t s) (Once n s) (cond (ltb s t) (Once place t) (Tied place n t)) P
    (λ lt. once_greater f n s place t e h (ltb-true t s lt))
    (λ ge. cond_both (ltb s t) (Once place t) (Tied place n t) P
    (λ lt. once_less f n s place t e h (ltb-true s t lt))
    (λ le. once_same f n s place t e h (omega (arith, ltb-false t s ge, ltb-false s t le))))
step_some f n s (Tied a b t) e h =
    let P : Latest → Type 0 = λ l. Says f (suc n) l in
    cond_both (ltb t s) (Once n s) (Tied a b t) P
    (λ lt. tied_greater f n s a b t e h (ltb-true t s lt))
    (λ ge. tied_more f n s a b t e h (ltb-false t s ge))

pub step_says : (f : ℕ → Option ℕ) (n : ℕ) (b : Latest) (m : Option ℕ) → f n ≡ m → Says f n b → Says f (suc n) (step b n m)
step_says f n b None e h = step_none f n b e h
step_says f n b (Some s) e h = step_some f n s b e h

-- `best f n` says what is so of f below n
pub best_says : (f : ℕ → Option ℕ) (n : ℕ) → Says f n (best f n)
unfolding best
best_says f zero = record { all = λ q l. absurd (omega arith) }
best_says f (suc n) = step_says f n (best f n) (f n) refl (best_says f n)

none_some_at : (f : ℕ → Option ℕ) (q t : ℕ) → f q ≡ None → f q ≡ Some t → ⊥
none_some_at f q t a b = cc

-- f has no value from n on
pub record NoneFrom (f : ℕ → Option ℕ) (n : ℕ) : Type 0 where
  pub all : (q : ℕ) → n ≤ q → f q ≡ None

below_from_some : (f : ℕ → Option ℕ) (n q s : ℕ) → NoneFrom f n → f q ≡ Some s → q < n
below_from_some f n q s out at = elim (cases_lt q n) [
  | inl l ↦ l
  | inr ge ↦ absurd (none_some_at f q s (out.all q ge) at)
]

place_from : (f : ℕ → Option ℕ) (n : ℕ) (b : Latest) (row : ℕ) → NoneFrom f n → Says f n b → place_of b ≡ Some row → IsGreatest f row
place_from f n Never row out h e = absurd (let no : None ≡ Some row = e in cc)
place_from f n (Tied a b t) row out h e = absurd (let no : None ≡ Some row = e in cc)
place_from f n (Once place t) row out h e =
    let same : place ≡ row = (let some : Some place ≡ Some row = e in cc) in
    let P : ℕ → Type 0 = λ r. IsGreatest f r in
    subst P same (record {
      value = t;
      here = h.here;
      others = λ q s ne at. h.others q s (below_from_some f n q s out at) ne at;
    })

place_to : (f : ℕ → Option ℕ) (n : ℕ) (b : Latest) (row : ℕ) → NoneFrom f n → Says f n b → IsGreatest f row → place_of b ≡ Some row
place_to f n Never row out h top =
    absurd (none_some_at f row top.value (h.all row (below_from_some f n row top.value out top.here)) top.here)
place_to f n (Once place t) row out h top = elim (cases_eq place row) [
  | inl same ↦ ap Some same
  | inr ne ↦
      let up : t < top.value = top.others place t ne h.here in
      let down : top.value < t = h.others row top.value (below_from_some f n row top.value out top.here) (λ e. ne (sym e)) top.here in
      absurd (omega arith)
]
place_to f n (Tied a b t) row out h top =
    let le : top.value ≤ t = h.all row top.value (below_from_some f n row top.value out top.here) top.here in
    elim (cases_eq a row) [
      | inl same ↦
          let ne : b ≢ row = omega (arith, h.order, same) in
          absurd (omega (arith, top.others b t ne h.at_second))
      | inr ne ↦ absurd (omega (arith, top.others a t ne h.at_first))
    ]

-- `greatest` is the place that `IsGreatest` speaks of
pub greatest-is : (f : ℕ → Option ℕ) (n row : ℕ) → NoneFrom f n → greatest f n ≡ Some row → IsGreatest f row
unfolding greatest
greatest-is f n row out e = place_from f n (best f n) row out (best_says f n) e

pub greatest_from : (f : ℕ → Option ℕ) (n row : ℕ) → NoneFrom f n → IsGreatest f row → greatest f n ≡ Some row
unfolding greatest
greatest_from f n row out top = place_to f n (best f n) row out (best_says f n) top

-- two functions that are greatest at the same places
same_options : (o p : Option ℕ) → ((r : ℕ) → o ≡ Some r → p ≡ Some r) → ((r : ℕ) → p ≡ Some r → o ≡ Some r) → o ≡ p
same_options None None to back = refl
same_options None (Some r) to back = back r refl
same_options (Some r) p to back = sym (to r refl)

pub greatest_same : (f g : ℕ → Option ℕ) (m n : ℕ) → NoneFrom f m → NoneFrom g n → ((r : ℕ) → IsGreatest f r → IsGreatest g r) → ((r : ℕ) → IsGreatest g r → IsGreatest f r) → greatest f m ≡ greatest g n
greatest_same f g m n fo go to back = same_options (greatest f m) (greatest g n)
    (λ r e. greatest_from g n r go (to r (greatest-is f m r fo e)))
    (λ r e. greatest_from f m r fo (back r (greatest-is g n r go e)))

-- of functions with one value nowhere twice, each with a value is somewhere greatest
pub record IsInjective (f : ℕ → Option ℕ) : Type 0 where
  pub apart : (a b s : ℕ) → f a ≡ Some s → f b ≡ Some s → a ≡ b

pub some_greatest : (f : ℕ → Option ℕ) (n q s : ℕ) → NoneFrom f n → IsInjective f → f q ≡ Some s → (r : ℕ) × IsGreatest f r
some_greatest f n q s out inj at = from_best (best f n) refl (best_says f n)
  where
    from_best : (b : Latest) → best f n ≡ b → Says f n b → (r : ℕ) × IsGreatest f r
    from_best Never e h = absurd (none_some_at f q s (h.all q (below_from_some f n q s out at)) at)
    from_best (Once place t) e h = (place, place_from f n (Once place t) place out h refl)
    from_best (Tied a b t) e h = absurd (omega (arith, h.order, inj.apart a b t h.at_first h.at_second))

pub greatest_unique : (f : ℕ → Option ℕ) (a b : ℕ) → IsGreatest f a → IsGreatest f b → a ≡ b
greatest_unique f a b x y = elim (cases_eq a b) [
  | inl same ↦ same
  | inr ne ↦ absurd (omega (arith, x.others b y.value (λ e. ne (sym e)) y.here, y.others a x.value ne x.here))
]

-- a function with the same values is greatest at the same place
pub IsGreatest-same : (f g : ℕ → Option ℕ) (row : ℕ) → ((q : ℕ) → g q ≡ f q) → IsGreatest f row → IsGreatest g row
IsGreatest-same f g row same top = record {
  value = top.value;
  here = same row ∙ top.here;
  others = λ q s ne at. top.others q s ne (sym (same q) ∙ at);
}

-- a function that lost values stays greatest where it kept the greatest
pub IsGreatest-lost : (f g : ℕ → Option ℕ) (row : ℕ) → ((q : ℕ) → (g q ≡ f q) ⊎ (g q ≡ None)) → g row ≡ f row → IsGreatest f row → IsGreatest g row
IsGreatest-lost f g row lost kept top = record {
  value = top.value;
  here = kept ∙ top.here;
  others = λ q s ne at. elim (lost q) [
    | inl same ↦ top.others q s ne (sym same ∙ at)
    | inr gone ↦ absurd (none_some_at g q s gone at)
  ];
}

-- and is greatest nowhere else, where the value it is greatest at was nowhere twice
pub IsGreatest-found : (f g : ℕ → Option ℕ) (n row : ℕ) → NoneFrom f n → IsInjective f → ((q : ℕ) → (g q ≡ f q) ⊎ (g q ≡ None)) → ((r : ℕ) → IsGreatest f r → g r ≡ f r) → IsGreatest g row → IsGreatest f row
IsGreatest-found f g n row out inj lost kept top = elim (lost row) [
  | inl same ↦
      let old = some_greatest f n row top.value out inj (sym same ∙ top.here) in
      let was : IsGreatest f old.0 = old.1 in
      let P : ℕ → Type 0 = λ r. IsGreatest f r in
      subst P (greatest_unique g old.0 row (IsGreatest-lost f g old.0 lost (kept old.0 was) was) top) was
  | inr gone ↦ absurd (none_some_at g row top.value gone top.here)
]

-- what `best` says of the whole function
pub tied_shares : (f : ℕ → Option ℕ) (n a b t : ℕ) → NoneFrom f n → best f n ≡ Tied a b t → SharesGreatest f a b
tied_shares f n a b t out e =
    let P : Latest → Type 0 = λ l. Says f n l in
    let h : SaysTied f n a b t = subst P e (best_says f n) in
    record {
      order = h.order;
      value = t;
      at_first = h.at_first;
      at_second = h.at_second;
      greatest_value = λ q s at. h.all q s (below_from_some f n q s out at) at;
    }

pub best_describes : (f : ℕ → Option ℕ) (n : ℕ) → NoneFrom f n → Describes f (best f n)
best_describes f n out = described (best f n) refl (best_says f n)
  where
    described : (b : Latest) → best f n ≡ b → Says f n b → Describes f b
    described Never e h = λ q s at. none_some_at f q s (h.all q (below_from_some f n q s out at)) at
    described (Once place t) e h = place_from f n (Once place t) place out h refl
    described (Tied a b t) e h = tied_shares f n a b t out e

pub untied : (f : ℕ → Option ℕ) (n : ℕ) → NoneFrom f n → (l : Latest) → best f n ≡ l → ((a b t : ℕ) → l ≢ Tied a b t) → (a b : ℕ) → SharesGreatest f a b → ⊥
untied f n out Never e no_tie a b shares =
    let P : Latest → Type 0 = λ l. Says f n l in
    let h : SaysNever f n = subst P e (best_says f n) in
    none_some_at f a shares.value (h.all a (below_from_some f n a shares.value out shares.at_first)) shares.at_first
untied f n out (Tied x y t) e no_tie a b shares = no_tie x y t refl
untied f n out (Once place t) e no_tie a b shares =
    let P : Latest → Type 0 = λ l. Says f n l in
    let h : SaysOnce f n place t = subst P e (best_says f n) in
    let low : t ≤ shares.value = shares.greatest_value place t h.here in
    elim (cases_eq a place) [
      | inl same ↦
          let ne : b ≢ place = omega (arith, shares.order) in
          omega (arith, h.others b shares.value (below_from_some f n b shares.value out shares.at_second) ne shares.at_second)
      | inr ne ↦ omega (arith, h.others a shares.value (below_from_some f n a shares.value out shares.at_first) ne shares.at_first)
    ]

pub best-suc : (f : ℕ → Option ℕ) (n : ℕ) → best f (n + 1) ≡ step (best f n) n (f n)
unfolding best
best-suc f n = rw add-one refl

pub best_within : (f : ℕ → Option ℕ) (n row t : ℕ) → best f n ≡ Once row t → row < n
best_within f n row t e =
    let P : Latest → Type 0 = λ l. Says f n l in
    let h : SaysOnce f n row t = subst P e (best_says f n) in
    h.within

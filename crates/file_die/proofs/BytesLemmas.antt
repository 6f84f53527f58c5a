-- The places of a file of bytes, and what calls one behind another leave of them.
use Rattle.std.proofs.Common.{◌≡◌, ◌⊎◌, inl, inr, ◌∙◌, ◌<◌, ◌≤◌, ◌+◌, ◌-◌, ap, refl, sym, subst, arith, ℕ, zero, suc, true, false, List, [], ◌∷◌, ◌++◌, length, take, drop, Some, None, length-append, length-take, length-drop}
use Rattle.std.specs.Prelude.{slice_get, slice_index, IfErr, Result, Ok, Err, ◌^◌}
use Rattle.std.specs.Option.{unwrap_or}
use Rattle.std.proofs.Math.Seq.{take-length, take-append-add}
use Rattle.std.proofs.lemmas.Bool.{cases_lt}
use Rattle.std.proofs.lemmas.List.{append-nil}
use Rattle.std.proofs.lemmas.Option.{slice_get_past, slice_get-get_or, same_Some, unwrap_or-slice_get}
use Rattle.page_layout.specs.Page.{Page}
use Rattle.file_die.specs.declared.bytes.ByteFault.{ByteFault}
use Rattle.file_die.specs.declared.bytes.ByteFault.TheVariants as fault
use Rattle.file_die.specs.Bytes.{Bytes, over, Mixes, LastsMixed, AreAlike, WritesBytes, KeepsTold, Gives, HasEnded, InARow, IsPatient, OneCall, OneMore, came_by, OneWrite, TakesBytes, taken_by}
use Rattle.file_die.specs.Rows.{WritesAll, Going, IsFilled}

-- ---- places

no_place : (x : ℕ) → (None ≡ Some x) → ⊥
no_place x e = let no : ⊥ = cc in no

get_none : (i : ℕ) → slice_get {X = ℕ} [] i ≡ None
get_none i = refl

pub get_drop : (n : ℕ) (xs : List ℕ) (i : ℕ) → slice_get (drop n xs) i ≡ slice_get xs (n + i)
get_drop zero xs i = ap (slice_get xs) (omega arith)
get_drop (suc n) [] i = refl
get_drop (suc n) (x ∷ xs) i =
    let e : suc (n + i) ≡ suc n + i = omega arith in
    get_drop n xs i ∙ ap (slice_get (x ∷ xs)) e

pub get_take : (n : ℕ) (xs : List ℕ) (i : ℕ) → i < n → slice_get (take n xs) i ≡ slice_get xs i
get_take zero xs i lt = absurd (omega (arith, lt))
get_take (suc n) [] i lt = refl
get_take (suc n) (x ∷ xs) zero lt = refl
get_take (suc n) (x ∷ xs) (suc i) lt = get_take n xs i (omega (arith, lt))

get_front : (xs ys : List ℕ) (i : ℕ) → i < length xs → slice_get (xs ++ ys) i ≡ slice_get xs i
get_front [] ys i lt = absurd (omega (arith, lt))
get_front (x ∷ xs) ys zero lt = refl
get_front (x ∷ xs) ys (suc i) lt = get_front xs ys i (omega (arith, lt))

get_back : (xs ys : List ℕ) (i : ℕ) → slice_get (xs ++ ys) (length xs + i) ≡ slice_get ys i
get_back [] ys i = ap (slice_get ys) (omega arith)
get_back (x ∷ xs) ys i =
    let e : suc (length xs) + i ≡ suc (length xs + i) = omega arith in
    ap (slice_get (x ∷ (xs ++ ys))) e ∙ get_back xs ys i

pub take_alike : (n : ℕ) (xs ys : List ℕ) → AreAlike n xs ys → take n xs ≡ take n ys
take_alike zero xs ys a = refl
take_alike (suc n) [] [] a = refl
take_alike (suc n) [] (y ∷ ys) a = absurd (no_place y (a 0 (omega arith)))
take_alike (suc n) (x ∷ xs) [] a = absurd (no_place x (sym (a 0 (omega arith))))
take_alike (suc n) (x ∷ xs) (y ∷ ys) a =
    let here : x ≡ y = same_Some x y (a 0 (omega arith)) in
    let rest : take n xs ≡ take n ys = take_alike n xs ys (λ i lt. a (suc i) (omega (arith, lt))) in
    ap (λ z. z ∷ take n xs) here ∙ ap (λ zs. y ∷ zs) rest

same_places : (xs ys : List ℕ) → ((i : ℕ) → slice_get xs i ≡ slice_get ys i) → xs ≡ ys
same_places [] [] a = refl
same_places [] (y ∷ ys) a = absurd (no_place y (a 0))
same_places (x ∷ xs) [] a = absurd (no_place x (sym (a 0)))
same_places (x ∷ xs) (y ∷ ys) a =
    let here : x ≡ y = same_Some x y (a 0) in
    let rest : xs ≡ ys = same_places xs ys (λ i. a (suc i)) in
    ap (λ z. z ∷ xs) here ∙ ap (λ zs. y ∷ zs) rest

-- ---- lengths

reach : (n : ℕ) (xs ys : List ℕ) → AreAlike n xs ys → n ≤ length ys → n ≤ length xs
reach n xs ys a l = elim (cases_lt (length xs) n) [
  | inl lt ↦ absurd (no_place _ (sym (slice_get_past xs (length xs) (omega arith)) ∙ (a (length xs) lt ∙ slice_get-get_or ys (length xs) 0 (omega (arith, lt, l)))))
  | inr ge ↦ ge
]

-- each place of the first n has something, and that behind them nothing
sized : (n : ℕ) (xs : List ℕ) → ((i : ℕ) → i < n → slice_get xs i ≡ None → ⊥) → slice_get xs n ≡ None → length xs ≡ n
sized n xs all none = elim (cases_lt (length xs) n) [
  | inl lt ↦ absurd (all (length xs) lt (slice_get_past xs (length xs) (omega arith)))
  | inr ge ↦ elim (cases_lt n (length xs)) [
    | inl lt ↦ absurd (no_place _ (sym none ∙ slice_get-get_or xs n 0 lt))
    | inr le ↦ omega (arith, ge, le)
  ]
]

held_place : (n i : ℕ) (xs ys : List ℕ) → length ys ≡ n → i < n → slice_get xs i ≡ slice_get ys i → slice_get xs i ≡ None → ⊥
held_place n i xs ys e lt s none = no_place _ (sym none ∙ (s ∙ slice_get-get_or ys i 0 (omega (arith, e, lt))))

pub length_mixed : (n : ℕ) (was wanted left : List ℕ) → Mixes was wanted left → length was ≡ n → length wanted ≡ n → length left ≡ n
length_mixed n was wanted left m a b = sized n left
    (λ i lt none. elim (m i) [ inl e ↦ held_place n i left was a lt e none | inr e ↦ held_place n i left wanted b lt e none ])
    (elim (m n) [ inl e ↦ e ∙ slice_get_past was n (omega (arith, a)) | inr e ↦ e ∙ slice_get_past wanted n (omega (arith, b)) ])

pub length_lasts : (n : ℕ) (lasted was is now : List ℕ) → LastsMixed lasted was is now → length lasted ≡ n → length was ≡ n → length is ≡ n → length now ≡ n
length_lasts n lasted was is now m a b c = sized n now
    (λ i lt none. elim (m i) [
      | inl e ↦ held_place n i now lasted a lt e none
      | inr o ↦ elim o [ inl e ↦ held_place n i now was b lt e none | inr e ↦ held_place n i now is c lt e none ]
    ])
    (elim (m n) [
      | inl e ↦ e ∙ slice_get_past lasted n (omega (arith, a))
      | inr o ↦ elim o [ inl e ↦ e ∙ slice_get_past was n (omega (arith, b)) | inr e ↦ e ∙ slice_get_past is n (omega (arith, c)) ]
    ])

pub length_over : (at : ℕ) (given xs : List ℕ) → at + length given ≤ length xs → length (over at given xs) ≡ length xs
unfolding over
length_over at given xs l =
    omega (arith, length-append (take at xs) (given ++ drop (length given) (drop at xs)), length-append given (drop (length given) (drop at xs)), length-take at xs, length-drop (length given) (drop at xs), length-drop at xs, l)

reaches_over : (at : ℕ) (given xs : List ℕ) → at ≤ length xs → at + length given ≤ length (over at given xs)
unfolding over
reaches_over at given xs l =
    omega (arith, length-append (take at xs) (given ++ drop (length given) (drop at xs)), length-append given (drop (length given) (drop at xs)), length-take at xs, l)

-- ---- bytes in the place of others

pub over_before : (at : ℕ) (given xs : List ℕ) (i : ℕ) → at ≤ length xs → i < at → slice_get (over at given xs) i ≡ slice_get xs i
unfolding over
over_before at given xs i l lt = get_front (take at xs) (given ++ drop (length given) (drop at xs)) i (omega (arith, length-take at xs, l, lt)) ∙ get_take at xs i lt

pub over_within : (at : ℕ) (given xs : List ℕ) (i : ℕ) → at ≤ length xs → i < length given → slice_get (over at given xs) (at + i) ≡ slice_get given i
unfolding over
over_within at given xs i l lt =
    let rest : List ℕ = given ++ drop (length given) (drop at xs) in
    let e : at + i ≡ length (take at xs) + i = omega (arith, length-take at xs, l) in
    ap (slice_get (take at xs ++ rest)) e ∙ (get_back (take at xs) rest i ∙ get_front given (drop (length given) (drop at xs)) i lt)

pub over_after : (at : ℕ) (given xs : List ℕ) (i : ℕ) → at ≤ length xs → at + length given ≤ i → slice_get (over at given xs) i ≡ slice_get xs i
unfolding over
over_after at given xs i l le =
    let j : ℕ = i - (at + length given) in
    let rest : List ℕ = given ++ drop (length given) (drop at xs) in
    let e : i ≡ length (take at xs) + (length given + j) = omega (arith, length-take at xs, l, le) in
    let back : at + (length given + j) ≡ i = omega (arith, le) in
    ap (slice_get (take at xs ++ rest)) e
    ∙ (get_back (take at xs) rest (length given + j)
    ∙ (get_back given (drop (length given) (drop at xs)) j
    ∙ (get_drop (length given) (drop at xs) j ∙ (get_drop at xs (length given + j) ∙ ap (slice_get xs) back))))

-- ---- writes one behind another

-- the rest of the bytes over what has the first of them already is what all of them make
step_same : (at done : ℕ) (given xs s : List ℕ) → at ≤ length xs → done ≤ length given → at + done ≤ length s
    → Mixes xs (over at given xs) s → AreAlike (at + done) s (over at given xs) → over (at + done) (drop done given) s ≡ over at given xs
step_same at done given xs s l d r m a = same_places _ _ (λ i. elim (cases_lt i (at + done)) [
  | inl lt ↦ over_before (at + done) (drop done given) s i r lt ∙ a i lt
  | inr ge ↦ elim (cases_lt i (at + length given)) [
    | inl lt ↦
        let j : ℕ = i - (at + done) in
        let e : i ≡ at + done + j = omega (arith, ge) in
        let f : i ≡ at + (done + j) = omega (arith, ge) in
        ap (slice_get (over (at + done) (drop done given) s)) e
        ∙ (over_within (at + done) (drop done given) s j r (omega (arith, length-drop done given, lt, ge))
        ∙ (get_drop done given j
        ∙ (sym (over_within at given xs (done + j) l (omega (arith, lt, ge))) ∙ ap (slice_get (over at given xs)) (sym f))))
    | inr past ↦
        let same = over_after at given xs i l past in
        over_after (at + done) (drop done given) s i r (omega (arith, length-drop done given, past, d))
        ∙ elim (m i) [ inl e ↦ e ∙ sym same | inr e ↦ e ]
  ]
])

mix_step : (u full s t : List ℕ) → Mixes u full s → Mixes s full t → Mixes u full t
mix_step u full s t a b i = elim (b i) [
  | inl e ↦ elim (a i) [ inl f ↦ inl (e ∙ f) | inr f ↦ inr (e ∙ f) ]
  | inr e ↦ inr e
]

lasts_step : (ud u full sd s td t : List ℕ) → Mixes u full s → Mixes s full t → LastsMixed ud u s sd → LastsMixed sd s t td → LastsMixed ud u t td
lasts_step ud u full sd s td t a b c d i = elim (d i) [
  | inl e ↦ elim (c i) [
    | inl f ↦ inl (e ∙ f)
    | inr o ↦ elim o [ inl f ↦ inr (inl (e ∙ f)) | inr f ↦ middle (e ∙ f) ]
  ]
  | inr o ↦ elim o [ inl e ↦ middle e | inr e ↦ inr (inr e) ]
]
  where
    middle : slice_get td i ≡ slice_get s i → (slice_get td i ≡ slice_get ud i) ⊎ ((slice_get td i ≡ slice_get u i) ⊎ (slice_get td i ≡ slice_get t i))
    middle e = elim (a i) [
      | inl f ↦ inr (inl (e ∙ f))
      | inr f ↦ elim (b i) [ inl g ↦ inr (inr (e ∙ sym g)) | inr g ↦ inr (inr (e ∙ (f ∙ sym g))) ]
    ]

pub going_first : (u : Bytes) (at : ℕ) (given : List ℕ) → at ≤ length u.bytes → Going u at given 0 u
going_first u at given l = record {
  mixes = λ i. inl refl;
  alike = λ i lt. sym (over_before at given u.bytes i l (omega (arith, lt)));
  lasts = λ i. inl refl;
  syncs = refl;
  reaches = omega (arith, l);
}

-- the bytes that are left
pub rest_is : (done : ℕ) (given : List ℕ) → take (length given - done) (drop done given) ≡ drop done given
rest_is done given = ap (λ n. take n (drop done given)) (sym (length-drop done given)) ∙ take-length (drop done given)

-- what one call is asked to make is what all are
pub going_wants : (u : Bytes) (at : ℕ) (given : List ℕ) (done : ℕ) (s : Bytes) → at ≤ length u.bytes → done ≤ length given → Going u at given done s → over (at + done) (drop done given) s.bytes ≡ over at given u.bytes
going_wants u at given done s l d g = step_same at done given u.bytes s.bytes l d g.reaches g.mixes g.alike

pub going_on : (u : Bytes) (at : ℕ) (given : List ℕ) (done n : ℕ) (part : List ℕ) (s t : Bytes) → part ≡ drop done given → at ≤ length u.bytes → done + n ≤ length given → Going u at given done s → WritesBytes s (at + done) part (Ok n) t → Going u at given (done + n) t
going_on u at given done n part s t p l d g w =
    let is = ap (λ z. over (at + done) z s.bytes) p ∙ going_wants u at given done s l (omega (arith, d)) g in
    let full : List ℕ = over at given u.bytes in
    let mixes : Mixes s.bytes full t.bytes = subst (λ z. Mixes s.bytes z t.bytes) is w.mixes in
    let moved : AreAlike (at + done + n) t.bytes full = subst (λ z. AreAlike (at + done + n) t.bytes z) is w.moved in
    let sum : at + done + n ≡ at + (done + n) = omega arith in
    let alike : AreAlike (at + (done + n)) t.bytes full = subst (λ k. AreAlike k t.bytes full) sum moved in
    record {
      mixes = mix_step u.bytes full s.bytes t.bytes g.mixes mixes;
      alike = alike;
      lasts = lasts_step u.durable u.bytes full s.durable s.bytes t.durable t.bytes g.mixes mixes g.lasts w.lasts;
      syncs = w.syncs ∙ g.syncs;
      reaches = reach (at + (done + n)) t.bytes full alike (omega (arith, reaches_over at given u.bytes l, d));
    }

-- a call that failed, or has written nothing
pub going_still : (u : Bytes) (at : ℕ) (given : List ℕ) (done : ℕ) (answer : Result ℕ ByteFault) (part : List ℕ) (s t : Bytes)
    → part ≡ drop done given → at ≤ length u.bytes → done ≤ length given → Going u at given done s → WritesBytes s (at + done) part answer t
    → Going u at given done t
going_still u at given done answer part s t p l d g w =
    let is = ap (λ z. over (at + done) z s.bytes) p ∙ going_wants u at given done s l d g in
    let full : List ℕ = over at given u.bytes in
    let mixes : Mixes s.bytes full t.bytes = subst (λ z. Mixes s.bytes z t.bytes) is w.mixes in
    let alike : AreAlike (at + done) t.bytes full = λ i lt. elim (mixes i) [ inl e ↦ e ∙ g.alike i lt | inr e ↦ e ] in
    record {
      mixes = mix_step u.bytes full s.bytes t.bytes g.mixes mixes;
      alike = alike;
      lasts = lasts_step u.durable u.bytes full s.durable s.bytes t.durable t.bytes g.mixes mixes g.lasts w.lasts;
      syncs = w.syncs ∙ g.syncs;
      reaches = reach (at + done) t.bytes full alike (omega (arith, reaches_over at given u.bytes l, d));
    }

pub tells_next : (size : ℕ) (reads : List ℕ → Page) (u : Bytes) (at : ℕ) (given : List ℕ) (done : ℕ) (part : List ℕ) (s t : Bytes)
    → part ≡ drop done given → at ≤ length u.bytes → done ≤ length given → Going u at given done s
    → KeepsTold size reads (over (at + done) part s.bytes) s t → KeepsTold size reads (over at given u.bytes) s t
tells_next size reads u at given done part s t p l d g b = subst (λ z. KeepsTold size reads z s t) (ap (λ z. over (at + done) z s.bytes) p ∙ going_wants u at given done s l d g) b

pub all_written : (u : Bytes) (at : ℕ) (given : List ℕ) (done : ℕ) (s : Bytes) → at ≤ length u.bytes → length given ≤ done → Going u at given done s → WritesAll u at given true s
all_written u at given done s l d g = record {
  mixes = g.mixes;
  written = λ e. same_places _ _ (λ i. elim (cases_lt i (at + done)) [
    | inl lt ↦ g.alike i lt
    | inr ge ↦ elim (g.mixes i) [ inl e ↦ e ∙ sym (over_after at given u.bytes i l (omega (arith, ge, d))) | inr e ↦ e ]
  ]);
  lasts = g.lasts;
  syncs = g.syncs;
}

pub not_written : (u : Bytes) (at : ℕ) (given : List ℕ) (done : ℕ) (s : Bytes) → Going u at given done s → WritesAll u at given false s
not_written u at given done s g = record { mixes = g.mixes; written = λ e. let no : ⊥ = cc in absurd no; lasts = g.lasts; syncs = g.syncs }

pub tells_on : (size : ℕ) (reads : List ℕ → Page) (full : List ℕ) (u s t : Bytes) → KeepsTold size reads full u s → KeepsTold size reads full s t → KeepsTold size reads full u t
tells_on size reads full u s t a b since told = b since (a since told)

-- one more write of what is left
pub takes_more : {F : Type 0} → (wrote : F → ℕ → List ℕ → Result ℕ ByteFault → F → Type 0) (first old new : F) (at done count : ℕ) (given part : List ℕ) (answer : Result ℕ ByteFault) → part ≡ drop done given → taken_by done answer ≡ count
    → TakesBytes wrote first at given done old → wrote old (at + done) part answer new → TakesBytes wrote first at given count new
takes_more wrote first old new at done count given part answer p e before here =
    subst (λ n. TakesBytes wrote first at given n new) e (OneWrite done old answer new before (subst (λ z. wrote old (at + done) z answer new) p here))

-- ---- reads one behind another

front_of : (done : ℕ) (xs ys rest : List ℕ) (i : ℕ) → done ≤ length xs → i < done → slice_get (take done xs ++ (ys ++ rest)) i ≡ slice_get xs i
front_of done xs ys rest i l lt = get_front (take done xs) (ys ++ rest) i (omega (arith, length-take done xs, l, lt)) ∙ get_take done xs i lt

middle_of : (done : ℕ) (xs ys rest : List ℕ) (i : ℕ) → done ≤ length xs → i < length ys → slice_get (take done xs ++ (ys ++ rest)) (done + i) ≡ slice_get ys i
middle_of done xs ys rest i l lt =
    let e : done + i ≡ length (take done xs) + i = omega (arith, length-take done xs, l) in
    ap (slice_get (take done xs ++ (ys ++ rest))) e ∙ (get_back (take done xs) (ys ++ rest) i ∙ get_front ys rest i lt)

taken_front : (done : ℕ) (xs ys rest : List ℕ) → done ≤ length xs → take done (take done xs ++ (ys ++ rest)) ≡ take done xs
taken_front done xs ys rest l = take_alike done (take done xs ++ (ys ++ rest)) xs (λ i lt. front_of done xs ys rest i l lt)

taken_more : (done n : ℕ) (xs ys rest : List ℕ) → done ≤ length xs → n ≤ length ys → take (done + n) (take done xs ++ (ys ++ rest)) ≡ take done xs ++ take n ys
taken_more done n xs ys rest l m =
    let e : done + n ≡ length (take done xs) + n = omega (arith, length-take done xs, l) in
    let same : take n (ys ++ rest) ≡ take n ys = take_alike n (ys ++ rest) ys (λ i lt. get_front ys rest i (omega (arith, lt, m))) in
    ap (λ k. take k (take done xs ++ (ys ++ rest))) e ∙ (take-append-add (take done xs) (ys ++ rest) n ∙ ap (λ z. take done xs ++ z) same)

pub gives_more : {F : Type 0} → (gave : F → ℕ → ℕ → Result (List ℕ) ByteFault → F → Type 0) (first old new : F) (at done n room : ℕ) (xs ys rest : List ℕ) → done ≤ length xs → n ≤ length ys → Gives gave first at (take done xs) old → gave old (at + done) room (Ok (take n ys)) new
    → Gives gave first at (take (done + n) (take done xs ++ (ys ++ rest))) new
gives_more gave first old new at done n room xs ys rest l m before here =
    let e : at + done ≡ at + length (take done xs) = omega (arith, length-take done xs, l) in
    subst (λ z. Gives gave first at z new) (sym (taken_more done n xs ys rest l m)) (OneMore (take done xs) old room (Ok (take n ys)) new before (subst (λ k. gave old k room (Ok (take n ys)) new) e here))

-- a read that gave none
pub gives_still : {F : Type 0} → (gave : F → ℕ → ℕ → Result (List ℕ) ByteFault → F → Type 0) (first old new : F) (at done room : ℕ) (answer : Result (List ℕ) ByteFault) (xs ys rest : List ℕ) → came_by answer ≡ [] → done ≤ length xs
    → Gives gave first at (take done xs) old → gave old (at + done) room answer new → Gives gave first at (take done (take done xs ++ (ys ++ rest))) new
gives_still gave first old new at done room answer xs ys rest none l before here =
    let e : at + done ≡ at + length (take done xs) = omega (arith, length-take done xs, l) in
    subst (λ z. Gives gave first at z new) (ap (λ z. take done xs ++ z) none ∙ (append-nil (take done xs) ∙ sym (taken_front done xs ys rest l))) (OneMore (take done xs) old room answer new before (subst (λ k. gave old k room answer new) e here))

-- and ends them
pub ended_here : {F : Type 0} → (gave : F → ℕ → ℕ → Result (List ℕ) ByteFault → F → Type 0) (first old new : F) (at done room : ℕ) (why : ByteFault) (xs : List ℕ) → done < length xs → room ≡ length xs - done → Gives gave first at (take done xs) old
    → gave old (at + done) room (Err why) new ⊎ ((why ≡ fault.Other) × gave old (at + done) room (Ok []) new) → HasEnded gave first at (length xs) why new
ended_here gave first old new at done room why xs l e before here =
    let is : at + done ≡ at + length (take done xs) = omega (arith, length-take done xs, l) in
    record {
      before = take done xs;
      mid = old;
      gives = before;
      rest = room;
      some = omega (arith, e, l);
      unread = omega (arith, length-take done xs, e, l);
      last = subst (λ k. gave old k room (Err why) new ⊎ ((why ≡ fault.Other) × gave old k room (Ok []) new)) is here;
    }

pub filled_still : (bytes : List ℕ) (at done : ℕ) (xs ys rest : List ℕ) → done ≤ length xs → IsFilled bytes at done xs → IsFilled bytes at done (take done xs ++ (ys ++ rest))
filled_still bytes at done xs ys rest l before i lt = front_of done xs ys rest i l lt ∙ before i lt

pub filled_more : (bytes : List ℕ) (at done n : ℕ) (xs ys rest : List ℕ) → done ≤ length xs → n ≤ length ys → IsFilled bytes at done xs → ((i : ℕ) → i < n → slice_get ys i ≡ slice_get bytes (at + done + i)) → IsFilled bytes at (done + n) (take done xs ++ (ys ++ rest))
filled_more bytes at done n xs ys rest l m before here i lt = elim (cases_lt i done) [
  | inl lower ↦ front_of done xs ys rest i l lower ∙ before i lower
  | inr ge ↦
      let j : ℕ = i - done in
      let e : i ≡ done + j = omega (arith, ge) in
      let f : at + done + j ≡ at + i = omega (arith, ge) in
      ap (slice_get (take done xs ++ (ys ++ rest))) e ∙ (middle_of done xs ys rest j l (omega (arith, lt, ge, m)) ∙ (here j (omega (arith, lt, ge)) ∙ ap (slice_get bytes) f))
]

-- ---- bytes

fits_at : (xs ys : List ℕ) (i j : ℕ) → slice_get xs i ≡ slice_get ys j → slice_index ys j < 256 → slice_index xs i < 256
fits_at xs ys i j e lt = let is : slice_index xs i ≡ slice_index ys j = sym (unwrap_or-slice_get xs i 0) ∙ (ap (λ o. unwrap_or o 0) e ∙ unwrap_or-slice_get ys j 0) in subst (λ n. n < 256) (sym is) lt

pub fits_over : (at : ℕ) (given xs : List ℕ) → at ≤ length xs → ((i : ℕ) → slice_index given i < 256) → ((i : ℕ) → slice_index xs i < 256) → (i : ℕ) → slice_index (over at given xs) i < 256
fits_over at given xs l a b i = elim (cases_lt i at) [
  | inl lt ↦ fits_at _ xs i i (over_before at given xs i l lt) (b i)
  | inr ge ↦ elim (cases_lt i (at + length given)) [
    | inl lt ↦
        let j : ℕ = i - at in
        let e : i ≡ at + j = omega (arith, ge) in
        fits_at _ given i j (ap (slice_get (over at given xs)) e ∙ over_within at given xs j l (omega (arith, lt, ge))) (a j)
    | inr past ↦ fits_at _ xs i i (over_after at given xs i l past) (b i)
  ]
]

pub fits_mixed : (was wanted left : List ℕ) → Mixes was wanted left → ((i : ℕ) → slice_index was i < 256) → ((i : ℕ) → slice_index wanted i < 256) → (i : ℕ) → slice_index left i < 256
fits_mixed was wanted left m a b i = elim (m i) [ inl e ↦ fits_at left was i i e (a i) | inr e ↦ fits_at left wanted i i e (b i) ]

pub fits_lasts : (lasted was is now : List ℕ) → LastsMixed lasted was is now → ((i : ℕ) → slice_index lasted i < 256) → ((i : ℕ) → slice_index was i < 256) → ((i : ℕ) → slice_index is i < 256) → (i : ℕ) → slice_index now i < 256
fits_lasts lasted was is now m a b c i = elim (m i) [
  | inl e ↦ fits_at now lasted i i e (a i)
  | inr o ↦ elim o [ inl e ↦ fits_at now was i i e (b i) | inr e ↦ fits_at now is i i e (c i) ]
]

pub fits_take : (n : ℕ) (xs : List ℕ) → ((i : ℕ) → slice_index xs i < 256) → (i : ℕ) → slice_index (take n xs) i < 256
fits_take n xs a i = elim (cases_lt i n) [
  | inl lt ↦ fits_at (take n xs) xs i i (get_take n xs i lt) (a i)
  | inr ge ↦ fits_at (take n xs) [] i 0 (slice_get_past (take n xs) i (omega (arith, length-take n xs, ge))) (omega arith)
]

pub fits_drop : (n : ℕ) (xs : List ℕ) → ((i : ℕ) → slice_index xs i < 256) → (i : ℕ) → slice_index (drop n xs) i < 256
fits_drop n xs a i = fits_at (drop n xs) xs i (n + i) (get_drop n xs i) (a (n + i))

-- ---- a file in memory

abbrev pub standing_bytes : List ℕ → Bytes
standing_bytes xs = record { bytes = xs; durable = xs; failed_syncs = 0 }

pub pasted : (at k : ℕ) (xs ys given : List ℕ) → ys ≡ given → k ≡ length given → take at xs ++ (ys ++ drop k (drop at xs)) ≡ over at given xs
unfolding over
pasted at k xs ys given e l = ap (λ zs. take at xs ++ (zs ++ drop k (drop at xs))) e ∙ ap (λ n. take at xs ++ (given ++ drop n (drop at xs))) l

pub all_at_once : (at : ℕ) (given xs : List ℕ) → WritesBytes (standing_bytes xs) at given (Ok (length given)) (standing_bytes (over at given xs))
all_at_once at given xs = record { mixes = λ i. inr refl; moved = λ i lt. refl; lasts = λ i. inr (inr refl); syncs = refl }

pub told_at_once : (size : ℕ) (reads : List ℕ → Page) (xs wanted : List ℕ) → KeepsTold size reads wanted (standing_bytes xs) (standing_bytes wanted)
told_at_once size reads xs wanted since told = record {
  stands = λ row. inl (1, omega arith, refl);
  lasts = λ row. record { left = inl (2, omega arith, refl); kept = λ a b. b };
}

-- ---- calls that were interrupted

pub one_more_call : {F : Type 0} → (one : F → F → Type 0) (n m : ℕ) (mid new : F) → m ≡ n + 1 → InARow one n mid → one mid new → InARow one m new
one_more_call one n m mid new e before last =
    let is : suc n ≡ m = omega (arith, e) in
    subst (λ k. InARow one k new) is (OneCall n mid new before last)

-- the last that is made, after as many as there can be
pub is_patient : {F : Type 0} → (one : F → F → Type 0) (n : ℕ) (mid new : F) (answer : Result ℕ ByteFault) → n ≡ 2 ^ 64 - 1 → InARow one n mid → IfErr answer (λ why. why ≡ fault.Interrupted → one mid new)
    → IfErr answer (λ why. IsPatient one why new)
is_patient one n mid new (Ok moved) e before last = tt
is_patient one n mid new (Err why) e before last = λ is. one_more_call one n (2 ^ 64) mid new (omega (arith, e)) before (last is)

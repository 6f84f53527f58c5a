-- How many newest pages a block holds.
use Rattle.std.proofs.Common.{◌≡◌, ◌≢◌, inl, inr, ℕ, ◌+◌, ◌*◌, ◌/◌, ◌<◌, ◌≤◌, Bool, true, false, eqb, List, [], ◌∷◌, ◌++◌, length, map, get_or, set}
use Rattle.std.proofs.Common.{Option, Some, None, refl, ap, sym, ◌∙◌, arith, length-append}
use Rattle.std.specs.Prelude.{count_by, sum_by}
use Rattle.std.specs.List.{range_with_len}
use Rattle.std.proofs.lemmas.Bool.{cases_lt, eq-eqb}
use Rattle.std.proofs.lemmas.List.FromFn.{length-map-range_with_len}
use Rattle.page_layout.specs.declared.record.Record.{Record}
use Rattle.page_layout.specs.declared.record.Key.{Key}
use Rattle.page_layout.specs.declared.record.Key.TheVariants.{Sector, Translation, Table}
use Rattle.page_layout.specs.declared.geometry.Geometry.{Geometry}
use Rattle.page_layout.specs.Geometry.{translation_pages, table_pages, key_count, vmax}
use Rattle.page_layout.specs.Key.{key_of, key_eq}
use Rattle.page_layout.specs.Newest.{newest, sequence_at}
use Rattle.page_layout.specs.Live.{first_keys, keys, IsKeyOf, is_in_block, live}
use Rattle.page_layout.proofs.KeyLemmas.{key_eq-same, key_eq-other, cases_key}
use Rattle.page_layout.proofs.CountLemmas.{bit, count_by-cons, count_by-append, count_by-same, count_by-map, count_by_none, count_in_range}
use Rattle.page_layout.proofs.CountLemmas.{count_in_range_is, count_in_range_over, sum_of_counts, Finds, pigeonhole}
use Rattle.page_layout.proofs.NewestLemmas.{newest_programmed, newest_other_key}

-- ---- each key once

sectors_once : (n l : ℕ) → n < l → count_by (key_eq (Sector n)) (map Sector (range_with_len 0 l)) ≡ 1
sectors_once n l within = count_by-map (key_eq (Sector n)) Sector (range_with_len 0 l) ∙ count_in_range_is n 0 l (omega arith) (omega arith)

translations_once : (n l : ℕ) → n < l → count_by (key_eq (Translation n)) (map Translation (range_with_len 0 l)) ≡ 1
translations_once n l within = count_by-map (key_eq (Translation n)) Translation (range_with_len 0 l) ∙ count_in_range_is n 0 l (omega arith) (omega arith)

tables_once : (n l : ℕ) → n < l → count_by (key_eq (Table n)) (map Table (range_with_len 0 l)) ≡ 1
tables_once n l within = count_by-map (key_eq (Table n)) Table (range_with_len 0 l) ∙ count_in_range_is n 0 l (omega arith) (omega arith)

no_other : (key : Key) (make : ℕ → Key) (l : ℕ) → ((n : ℕ) → key_eq key (make n) ≡ false) → count_by (key_eq key) (map make (range_with_len 0 l)) ≡ 0
no_other key make l never = count_by-map (key_eq key) make (range_with_len 0 l) ∙ count_by_none (λ n. key_eq key (make n)) (range_with_len 0 l) never

in_three : (key : Key) (l t u : ℕ) → count_by (key_eq key) (first_keys l t u) ≡ count_by (key_eq key) (map Sector (range_with_len 0 l)) + (count_by (key_eq key) (map Translation (range_with_len 0 t)) + count_by (key_eq key) (map Table (range_with_len 0 u)))
in_three key l t u =
    omega (
      arith,
      count_by-append (key_eq key) (map Sector (range_with_len 0 l)) (map Translation (range_with_len 0 t) ++ map Table (range_with_len 0 u)),
      count_by-append (key_eq key) (map Translation (range_with_len 0 t)) (map Table (range_with_len 0 u)),
    )

pub key_once : (g : Geometry) (key : Key) → IsKeyOf g key → count_by (key_eq key) (keys g) ≡ 1
unfolding keys
key_once g (Sector n) within =
    omega (
      arith,
      in_three (Sector n) g.sectors (translation_pages g) (table_pages g),
      sectors_once n g.sectors within,
      no_other (Sector n) Translation (translation_pages g) (λ _. refl),
      no_other (Sector n) Table (table_pages g) (λ _. refl),
    )
key_once g (Translation n) within =
    omega (
      arith,
      in_three (Translation n) g.sectors (translation_pages g) (table_pages g),
      translations_once n (translation_pages g) within,
      no_other (Translation n) Sector g.sectors (λ _. refl),
      no_other (Translation n) Table (table_pages g) (λ _. refl),
    )
key_once g (Table n) within =
    omega (
      arith,
      in_three (Table n) g.sectors (translation_pages g) (table_pages g),
      tables_once n (table_pages g) within,
      no_other (Table n) Sector g.sectors (λ _. refl),
      no_other (Table n) Translation (translation_pages g) (λ _. refl),
    )

-- a key out of range is none of them
sectors_over : (n l : ℕ) → l ≤ n → count_by (key_eq (Sector n)) (map Sector (range_with_len 0 l)) ≡ 0
sectors_over n l over = count_by-map (key_eq (Sector n)) Sector (range_with_len 0 l) ∙ count_in_range_over n 0 l (omega arith)

translations_over : (n l : ℕ) → l ≤ n → count_by (key_eq (Translation n)) (map Translation (range_with_len 0 l)) ≡ 0
translations_over n l over = count_by-map (key_eq (Translation n)) Translation (range_with_len 0 l) ∙ count_in_range_over n 0 l (omega arith)

tables_over : (n l : ℕ) → l ≤ n → count_by (key_eq (Table n)) (map Table (range_with_len 0 l)) ≡ 0
tables_over n l over = count_by-map (key_eq (Table n)) Table (range_with_len 0 l) ∙ count_in_range_over n 0 l (omega arith)

not_below : (n l : ℕ) → (¬ (n < l)) → l ≤ n
not_below n l never = elim (cases_lt n l) [ inl below ↦ absurd (never below) | inr over ↦ over ]

pub key_never : (g : Geometry) (key : Key) → (¬ IsKeyOf g key) → count_by (key_eq key) (keys g) ≡ 0
unfolding keys
key_never g (Sector n) over =
    omega (
      arith,
      in_three (Sector n) g.sectors (translation_pages g) (table_pages g),
      sectors_over n g.sectors (not_below n g.sectors over),
      no_other (Sector n) Translation (translation_pages g) (λ _. refl),
      no_other (Sector n) Table (table_pages g) (λ _. refl),
    )
key_never g (Translation n) over =
    omega (
      arith,
      in_three (Translation n) g.sectors (translation_pages g) (table_pages g),
      translations_over n (translation_pages g) (not_below n (translation_pages g) over),
      no_other (Translation n) Sector g.sectors (λ _. refl),
      no_other (Translation n) Table (table_pages g) (λ _. refl),
    )
key_never g (Table n) over =
    omega (
      arith,
      in_three (Table n) g.sectors (translation_pages g) (table_pages g),
      tables_over n (table_pages g) (not_below n (table_pages g) over),
      no_other (Table n) Sector g.sectors (λ _. refl),
      no_other (Table n) Translation (translation_pages g) (λ _. refl),
    )

pub length-keys : (g : Geometry) → length (keys g) ≡ key_count g
unfolding keys
length-keys g =
    omega (
      arith,
      length-append (map Sector (range_with_len 0 g.sectors)) (map Translation (range_with_len 0 (translation_pages g)) ++ map Table (range_with_len 0 (table_pages g))),
      length-append (map Translation (range_with_len 0 (translation_pages g))) (map Table (range_with_len 0 (table_pages g))),
      length-map-range_with_len Sector 0 g.sectors,
      length-map-range_with_len Translation 0 (translation_pages g),
      length-map-range_with_len Table 0 (table_pages g),
    )

-- ---- tests that differ at one key

more_same : (cq cp ck bp bq : ℕ) → cq + ck * bp ≡ cp + ck * bq → (bq + cq) + (1 + ck) * bp ≡ (bp + cp) + (1 + ck) * bq
more_same cq cp ck bp bq h = omega arith

more_other : (cq cp ck bp bq b : ℕ) → cq + ck * bp ≡ cp + ck * bq → (b + cq) + (0 + ck) * bp ≡ (b + cp) + (0 + ck) * bq
more_other cq cp ck bp bq b h = omega arith

count_by_changed : (p q : Key → Bool) (key : Key) (xs : List Key) → ((x : Key) → key ≢ x → p x ≡ q x) → count_by q xs + count_by (key_eq key) xs * bit (p key) ≡ count_by p xs + count_by (key_eq key) xs * bit (q key)
count_by_changed p q key [] same = omega arith
count_by_changed p q key (x ∷ xs) same =
    let more = count_by_changed p q key xs same in
    rw (count_by-cons p x xs, count_by-cons q x xs, count_by-cons (key_eq key) x xs) (elim (cases_key key x) [
      | inl is ↦
          let eq : key_eq key x ≡ true = rw is (key_eq-same x) in
          let one : bit (key_eq key x) ≡ 1 = ap bit eq in
          let px : bit (p x) ≡ bit (p key) = ap (λ k. bit (p k)) (sym is) in
          let qx : bit (q x) ≡ bit (q key) = ap (λ k. bit (q k)) (sym is) in
          rw (one, px, qx) (more_same (count_by q xs) (count_by p xs) (count_by (key_eq key) xs) (bit (p key)) (bit (q key)) more)
      | inr ne ↦
          let none : bit (key_eq key x) ≡ 0 = ap bit (key_eq-other key x ne) in
          let px : bit (p x) ≡ bit (q x) = ap bit (same x ne) in
          rw (none, px) (more_other (count_by q xs) (count_by p xs) (count_by (key_eq key) xs) (bit (p key)) (bit (q key)) (bit (q x)) more)
    ])

-- ---- the counts of blocks

pub live_same : (g : Geometry) (ms ns : List (Option Record)) (block : ℕ) → ((key : Key) → newest ns key ≡ newest ms key) → live g ns block ≡ live g ms block
unfolding live
live_same g ms ns block same =
    count_by-same (λ k. is_in_block g.pages block (newest ns k)) (λ k. is_in_block g.pages block (newest ms k)) (keys g)
    (λ k. ap (λ o. is_in_block g.pages block o) (same k))

-- one key has another newest page: its old block has one less, its new block one more
pub live_changed : (g : Geometry) (ms ns : List (Option Record)) (block : ℕ) (key : Key) → IsKeyOf g key
    → ((k : Key) → key ≢ k → newest ns k ≡ newest ms k)
    → live g ns block + bit (is_in_block g.pages block (newest ms key)) ≡ live g ms block + bit (is_in_block g.pages block (newest ns key))
unfolding live
live_changed g ms ns block key within same =
    let p : Key → Bool = λ k. is_in_block g.pages block (newest ms k) in
    let q : Key → Bool = λ k. is_in_block g.pages block (newest ns k) in
    let once : count_by (key_eq key) (keys g) ≡ 1 = key_once g key within in
    let changed : count_by q (keys g) + count_by (key_eq key) (keys g) * bit (p key) ≡ count_by p (keys g) + count_by (key_eq key) (keys g) * bit (q key) =
    count_by_changed p q key (keys g) (λ k ne. ap (λ o. is_in_block g.pages block o) (sym (same k ne))) in
    let at_one : count_by q (keys g) + 1 * bit (p key) ≡ count_by p (keys g) + 1 * bit (q key) = rw once at changed in
    omega (arith, at_one)

-- a page is programmed with a record that becomes the newest of its key
pub live_programmed : (g : Geometry) (marks : List (Option Record)) (row block : ℕ) (r : Record) → row < length marks → get_or marks row None ≡ None
    → IsKeyOf g (key_of r) → ((q s : ℕ) → sequence_at marks (key_of r) q ≡ Some s → s < r.sequence)
    → live g (set marks row (Some r)) block + bit (is_in_block g.pages block (newest marks (key_of r))) ≡ live g marks block + bit
    (eqb (row / g.pages) block)
live_programmed g marks row block r within was in_range above =
    let changed = live_changed g marks (set marks row (Some r)) block (key_of r) in_range (λ k ne. newest_other_key marks row r k within was ne) in
    let now : newest (set marks row (Some r)) (key_of r) ≡ Some row = newest_programmed marks row r within above in
    rw now at changed

-- a row is of at most one block
one_block : (pages blocks : ℕ) (o : Option ℕ) → count_by (λ b. is_in_block pages b o) (range_with_len 0 blocks) ≤ 1
one_block pages blocks None = omega (arith, count_by_none (λ (b : ℕ). false) (range_with_len 0 blocks) (λ _. refl))
one_block pages blocks (Some row) = count_in_range (row / pages) 0 blocks

-- the newest pages of all blocks are at most the keys
pub live_sum : (g : Geometry) (marks : List (Option Record)) → sum_by (live g marks) (range_with_len 0 g.blocks) ≤ key_count g
unfolding live
live_sum g marks =
    let all : sum_by (λ b. count_by (λ k. is_in_block g.pages b (newest marks k)) (keys g)) (range_with_len 0 g.blocks) ≤ length (keys g) =
    sum_of_counts (λ b k. is_in_block g.pages b (newest marks k)) (range_with_len 0 g.blocks) (keys g) (λ k. one_block g.pages g.blocks (newest marks k)) in
    omega (arith, all, length-keys g)

-- of more than that many closed blocks one has at most so many newest pages
pub some_block_within : (g : Geometry) (marks : List (Option Record)) (closed : ℕ → Bool) (most : ℕ) → key_count g / (most + 1) < count_by closed (range_with_len 0 g.blocks) → Finds closed (live g marks) most 0 g.blocks
some_block_within g marks closed most many = pigeonhole closed (live g marks) most g.blocks (key_count g) (live_sum g marks) many

pub some_small_block : (g : Geometry) (marks : List (Option Record)) (closed : ℕ → Bool) → key_count g / (vmax g + 1) < count_by closed (range_with_len 0 g.blocks) → Finds closed (live g marks) (vmax g) 0 g.blocks
some_small_block g marks closed many = some_block_within g marks closed (vmax g) many

-- ---- a block with no newest page

never_counted : (p : Key → Bool) (key : Key) (xs : List Key) → p key ≡ true → count_by p xs ≡ 0 → count_by (key_eq key) xs ≡ 0
never_counted p key [] passes none = refl
never_counted p key (x ∷ xs) passes none =
    let cp : count_by p (x ∷ xs) ≡ bit (p x) + count_by p xs = count_by-cons p x xs in
    let more : count_by (key_eq key) xs ≡ 0 = never_counted p key xs passes (omega arith) in
    elim (cases_key key x) [
      | inl is ↦
          let one : bit (p x) ≡ 1 = ap bit (ap p (sym is) ∙ passes) in
          absurd (omega arith)
      | inr ne ↦
          let zero_here : bit (key_eq key x) ≡ 0 = ap bit (key_eq-other key x ne) in
          omega (arith, count_by-cons (key_eq key) x xs, more, zero_here)
    ]

pub live_zero : (g : Geometry) (marks : List (Option Record)) (block row : ℕ) (key : Key) → IsKeyOf g key → live g marks block ≡ 0 → newest marks key ≡ Some row → row / g.pages ≢ block
unfolding live
live_zero g marks block row key within none is same =
    let p : Key → Bool = λ k. is_in_block g.pages block (newest marks k) in
    let passes : p key ≡ true = ap (λ o. is_in_block g.pages block o) is ∙ eq-eqb (row / g.pages) block same in
    let never : count_by (key_eq key) (keys g) ≡ 0 = never_counted p key (keys g) passes none in
    omega (arith, never, key_once g key within)

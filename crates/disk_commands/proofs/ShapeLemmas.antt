-- The fewest blocks that a format needs at a share, the spare ones beside them, and the die of a disk's sectors.
use Rattle.std.proofs.Common.{◌≡◌, inl, inr, ℕ, ◌+◌, ◌-◌, ◌*◌, ◌/◌, ◌<◌, ◌≤◌, ◌==◌, Bool, true, false, if◌then◌else◌, Option, Some, None, refl, sym, ◌∙◌, subst, arith}
use Rattle.std.specs.Prelude.{IfSome, max}
use Rattle.std.specs.Int.{div_ceil}
use Rattle.std.proofs.Math.Nat.{div-lt_iff_lt-mul, lt-div-mul-add}
use Rattle.std.proofs.lemmas.Bool.{cases_lt}
use Rattle.std.proofs.lemmas.Grind.{div_ceil_times}
use Rattle.page_layout.specs.declared.geometry.Geometry.{Geometry}
use Rattle.page_layout.specs.Geometry.{flush_blocks_at, key_count, need_at, table_pages, translation_pages, vmax_at}
use Rattle.page_layout.proofs.GeometryLemmas.{greater_share}
use Rattle.disk_commands.specs.Shapes.{HasBlocksForFormat, HasNoSpared, IsDie, IsDieForSectors, IsDieOfSectors, IsGreatestDie, AreFewestBlocks, IsPages, IsSparedDie, spare_of}

-- what holds of each count of pages
pub by_pages : (P : ℕ → Type 0) → P 64 → P 128 → P 256 → (p : ℕ) → IsPages p → P p
by_pages P at_64 at_128 at_256 p (inl is) = subst P (sym is) at_64
by_pages P at_64 at_128 at_256 p (inr (inl is)) = subst P (sym is) at_128
by_pages P at_64 at_128 at_256 p (inr (inr is)) = subst P (sym is) at_256

at_least_64 : (p : ℕ) → IsPages p → 64 ≤ p
at_least_64 = by_pages (λ p. 64 ≤ p) (omega arith) (omega arith) (omega arith)

-- ---- what a format needs of a die, by its numbers

abbrev pub keys_with : (b s : ℕ) → ℕ
keys_with b s = s + (div_ceil s 1024 + div_ceil b 1024)

abbrev pub vmax_with : (p s share : ℕ) → ℕ
vmax_with p s share = max (p - 1 - div_ceil s 1024) ((p - 1) * (share + 1) / (share + 2))

abbrev pub flush_with : (p s share : ℕ) → ℕ
flush_with p s share = if share == 0 then 0 else div_ceil (div_ceil s 1024) p + 2

abbrev pub need_with : (p share b s : ℕ) → ℕ
need_with p share b s = keys_with b s / (vmax_with p s share + 1) + 11 + flush_with p s share

translation_is : (g : Geometry) (p b s : ℕ) → IsDie p b s g → translation_pages g ≡ div_ceil s 1024
translation_is g p b s d = λ i. div_ceil (d.sectors_is i) (d.data_bytes_is i / 4)

table_is : (g : Geometry) (p b s : ℕ) → IsDie p b s g → table_pages g ≡ div_ceil b 1024
table_is g p b s d = λ i. div_ceil (d.blocks_is i) (d.data_bytes_is i / 4)

keys_is : (g : Geometry) (p b s : ℕ) → IsDie p b s g → key_count g ≡ keys_with b s
keys_is g p b s d = λ i. d.sectors_is i + (translation_is g p b s d i + table_is g p b s d i)

vmax_is : (g : Geometry) (p b s share : ℕ) → IsDie p b s g → vmax_at g share ≡ vmax_with p s share
vmax_is g p b s share d = λ i. max (d.pages_is i - 1 - translation_is g p b s d i) ((d.pages_is i - 1) * (share + 1) / (share + 2))

flush_is : (g : Geometry) (p b s share : ℕ) → IsDie p b s g → flush_blocks_at g share ≡ flush_with p s share
flush_is g p b s share d = λ i. if share == 0 then 0 else div_ceil (translation_is g p b s d i) (d.pages_is i) + 2

pub need_is : (g : Geometry) (p share b s : ℕ) → IsDie p b s g → need_at g share ≡ need_with p share b s
need_is g p share b s d = λ i. keys_is g p b s d i / (vmax_is g p b s share d i + 1) + 11 + flush_is g p b s share d i

-- two dies of the same numbers need the same
pub need_same : (g h : Geometry) (p share b s : ℕ) → IsDie p b s g → IsDie p b s h → need_at g share ≡ need_at h share
need_same g h p share b s one other = need_is g p share b s one ∙ sym (need_is h p share b s other)

-- ---- spare blocks

past : (k m d q : ℕ) → 32 ≤ d → m ≤ k + 3 → k < q * d + d → m < (q + 2) * d
past k m d q worth near low = omega (arith, worth, near, low)

little_more : (k m d : ℕ) → 32 ≤ d → m ≤ k + 3 → m / d ≤ k / d + 1
little_more k m d worth near =
    let low : k < k / d * d + d = lt-div-mul-add (omega (arith, worth)) in
    let less : m / d < k / d + 2 = (div-lt_iff_lt-mul {k = d} {x = m} {y = k / d + 2} (omega (arith, worth))).1 (past k m d (k / d) worth near low) in
    omega (arith, less)

-- a block that is worth collecting has at least half its pages live, and more at a greater share
worth : (g : Geometry) (p b s share : ℕ) → IsPages p → IsDie p b s g → 31 ≤ vmax_with p s share
worth g p b s share known die =
    let more : vmax_at g 0 ≤ vmax_at g share = greater_share g 0 share (omega arith) in
    let half : 31 ≤ vmax_with p s 0 = omega (arith, at_least_64 p known) in
    omega (arith, more, half, vmax_is g p b s 0 die, vmax_is g p b s share die)

some_blocks : (p share s b : ℕ) → HasBlocksForFormat p share s b → 12 ≤ b
some_blocks p share s b formats = subst (λ n. 12 ≤ n) (formats.1).blocks_is (formats.0).limits.block_count.least

-- with some blocks more a format still has enough
pub spared : (p share s b spare : ℕ) (g : Geometry) → IsPages p → HasBlocksForFormat p share s b → 1 ≤ spare → IsDie p (b + spare) s g → need_at g share ≤ b + spare
spared p share s b spare g known formats some die =
    let least = some_blocks p share s b formats in
    let most : b + spare ≤ 4096 = subst (λ n. n ≤ 4096) die.blocks_is g.limits.block_count.most in
    let before = div_ceil_times b 1024 (omega arith) in
    let after = div_ceil_times (b + spare) 1024 (omega arith) in
    let needs : need_with p share b s ≤ b = subst (λ n. n ≤ b) (need_is formats.0 p share b s formats.1) formats.2 in
    let near : keys_with (b + spare) s ≤ keys_with b s + 3 = omega (arith, most, least, before.0, after.1) in
    let live : 32 ≤ vmax_with p s share + 1 = omega (arith, worth formats.0 p b s share known formats.1) in
    let more = little_more (keys_with b s) (keys_with (b + spare) s) (vmax_with p s share + 1) live near in
    subst (λ n. n ≤ b + spare) (sym (need_is g p share (b + spare) s die)) (omega (arith, more, needs, some))

some_by : (one : Bool) (n : ℕ) → 1 ≤ n → 1 ≤ (if one then div_ceil n 20 else div_ceil n 40)
some_by true n some = let times = div_ceil_times n 20 (omega arith) in omega (arith, times.0, some)
some_by false n some = let times = div_ceil_times n 40 (omega arith) in omega (arith, times.0, some)

some_spare : (share n : ℕ) → 1 ≤ n → 1 ≤ spare_of share n
some_spare share n some = some_by (share == 0) n some

-- ---- the die of so many pages

-- the fewest blocks are one number
least_same : (p share s n m : ℕ) → AreFewestBlocks p share s n → AreFewestBlocks p share s m → n ≡ m
least_same p share s n m one other = elim (cases_lt n m) [
  | inl less ↦ absurd (other.least n less one.formats)
  | inr from ↦ elim (cases_lt m n) [
    | inl less ↦ absurd (one.least m less other.formats)
    | inr to ↦ omega (arith, from, to)
  ]
]

-- there is none where none of its blocks are enough, nor with the spare ones
pub none_enough : (p share s : ℕ) → ((blocks : ℕ) → blocks ≤ 4096 → ¬ HasBlocksForFormat p share s blocks) → (g : Geometry) → ¬ IsDieForSectors p share s g
none_enough p share s none g is =
    let most : is.needed + spare_of share is.needed ≤ 4096 = subst (λ n. n ≤ 4096) is.die.blocks_is g.limits.block_count.most in
    none is.needed (omega (arith, most)) is.least.formats

pub none_spare : (p share s n spare : ℕ) → AreFewestBlocks p share s n → spare ≡ spare_of share n → ((g : Geometry) → ¬ IsDie p (n + spare) s g) → (g : Geometry) → ¬ IsDieForSectors p share s g
none_spare p share s n spare least is none g its =
    let same : its.needed ≡ n = least_same p share s its.needed n its.least least in
    none g (subst (λ m. IsDie p (n + m) s g) (sym is) (subst (λ m. IsDie p (m + spare_of share m) s g) same its.die))

-- ---- the die of so many sectors

-- with so many pages, where there is none with fewer
pub spared_with : (p share s : ℕ) (g : Geometry) → IsPages p → IsDieForSectors p share s g → ((fewer : ℕ) → IsPages fewer → fewer < p → (h : Geometry) → ¬ IsDieForSectors fewer share s h) → IsSparedDie share s g
spared_with p share s g known die none =
    let same : p ≡ g.pages = sym die.die.pages_is in
    record {
      pages = subst IsPages same known;
      die = subst (λ n. IsDieForSectors n share s g) same die;
      fewest = subst (λ n. (fewer : ℕ) → IsPages fewer → fewer < n → (h : Geometry) → ¬ IsDieForSectors fewer share s h) same none;
    }

-- of 128 that is one with 64
pub fewer_than_128 : (P : ℕ → Type 0) → P 64 → (fewer : ℕ) → IsPages fewer → fewer < 128 → P fewer
fewer_than_128 P at_64 fewer (inl is) less = subst P (sym is) at_64
fewer_than_128 P at_64 fewer (inr (inl is)) less = absurd (omega (arith, is, less))
fewer_than_128 P at_64 fewer (inr (inr is)) less = absurd (omega (arith, is, less))

-- of 256 those with 64 and 128
fewer_than_256 : (P : ℕ → Type 0) → P 64 → P 128 → (fewer : ℕ) → IsPages fewer → fewer < 256 → P fewer
fewer_than_256 P at_64 at_128 fewer (inl is) less = subst P (sym is) at_64
fewer_than_256 P at_64 at_128 fewer (inr (inl is)) less = subst P (sym is) at_128
fewer_than_256 P at_64 at_128 fewer (inr (inr is)) less = absurd (omega (arith, is, less))

pub spared_if : (share s : ℕ) (r : Option Geometry) → ((g : Geometry) → ¬ IsDieForSectors 64 share s g) → ((g : Geometry) → ¬ IsDieForSectors 128 share s g) → IfSome r (IsDieForSectors 256 share s) → IfSome r (IsSparedDie share s)
spared_if share s (Some g) no_64 no_128 die = spared_with 256 share s g (inr (inr refl)) die (fewer_than_256 (λ p. (h : Geometry) → ¬ IsDieForSectors p share s h) no_64 no_128)
spared_if share s None no_64 no_128 die = tt

-- the greatest where none has spare blocks
pub greatest_if : (share s : ℕ) (r : Option Geometry) → HasNoSpared share s → IfSome r (IsGreatestDie share s) → IfSome r (IsDieOfSectors share s)
greatest_if share s (Some g) none is = inr (none, is)
greatest_if share s None none is = tt

-- ---- what is so of it

pub die_pages : (share s : ℕ) (g : Geometry) → IsDieOfSectors share s g → IsPages g.pages
die_pages share s g (inl is) = is.pages
die_pages share s g (inr is) = inr (inr is.1.die.pages_is)

pub die_formats : (share s : ℕ) (g : Geometry) → IsDieOfSectors share s g → need_at g share ≤ g.blocks
die_formats share s g (inl is) =
    let n = is.die.needed in
    let least = some_blocks g.pages share s n is.die.least.formats in
    let enough = spared g.pages share s n (spare_of share n) g is.pages is.die.least.formats (some_spare share n (omega (arith, least))) is.die.die in
    subst (λ b. need_at g share ≤ b) (sym is.die.die.blocks_is) enough
die_formats share s g (inr is) = subst (λ b. need_at g share ≤ b) (sym is.1.die.blocks_is) is.1.formats

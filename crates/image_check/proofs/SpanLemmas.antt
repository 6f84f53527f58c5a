-- The sectors whose entries stand in one translation page, and the reads of such pages.
use Rattle.std.proofs.Common.{◌≡◌, ℕ, ◌+◌, ◌*◌, ◌<◌, ◌≤◌, min, ap, subst, ◌∙◌, arith}
use Rattle.page_layout.specs.declared.geometry.Geometry.{Geometry}
use Rattle.page_layout.specs.Geometry.{entries, key_count, translation_pages}
use Rattle.image_check.proofs.StaleLemmas.{start_of, end_of, pages_reach}

-- the sectors from `first` up to `end` are those of page t
pub record IsSpan (g : Geometry) (t first end : ℕ) : Type 0 where
  pub begins : first ≡ t * entries g
  pub start : min (t * entries g) g.sectors ≡ first
  pub finish : min ((t + 1) * entries g) g.sectors ≡ end
  pub order : first ≤ end
  pub within : end ≤ g.sectors
  pub short : end ≤ first + entries g

pub span_of : (g : Geometry) (t pages first end sectors each : ℕ) → t < pages → pages ≡ translation_pages g → sectors ≡ g.sectors → each ≡ entries g → first ≡ t * each → end ≡ min sectors (first + each) → IsSpan g t first end
span_of g t pages first end sectors each below pages_are sectors_are each_is first_is end_is =
    let start : min (t * entries g) g.sectors ≡ first = start_of g t first sectors each (subst (λ k. t < k) pages_are below) sectors_are each_is first_is in
    record {
      begins = first_is ∙ ap (λ k. t * k) each_is;
      start = start;
      finish = end_of g t first end sectors each sectors_are each_is first_is end_is;
      order = omega arith;
      within = omega arith;
      short = omega arith;
    }

pub span_none : (g : Geometry) → 0 ≡ min (0 * entries g) g.sectors
span_none g = omega arith

pub span_all : (g : Geometry) (t : ℕ) → t ≡ translation_pages g → min (t * entries g) g.sectors ≡ g.sectors
span_all g t whole =
    let reach = pages_reach g in
    let last : t * entries g ≡ translation_pages g * entries g = ap (λ k. k * entries g) whole in
    omega arith

-- the place of its key
pub page_key : (g : Geometry) (t pages sectors keys : ℕ) → t < pages → pages ≡ translation_pages g → sectors ≡ g.sectors → keys ≡ key_count g → sectors + t < keys
page_key g t pages sectors keys below pages_are sectors_are keys_are = omega arith

-- one read more at most
pub reads_one_more : (a b c n : ℕ) → b ≤ a + n → c ≤ b + 1 → c ≤ a + (n + 1)
reads_one_more a b c n few one = omega arith

pub reads_ended : (a b c n end m : ℕ) → b ≤ a + n → c ≤ b + 1 → n < end → end ≡ m → c ≤ a + m
reads_ended a b c n end m few one below is = omega arith

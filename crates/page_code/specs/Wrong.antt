-- How many bits of a page as it was read are wrong.
use Rattle.std.specs.Prelude.{ℕ, ◌+◌}
use Rattle.page_layout.specs.declared.geometry.Geometry.{Geometry}
use Rattle.page_layout.specs.Page.{Page}
use Rattle.error_correction.specs.Bits.{bits_apart}
use Rattle.page_code.specs.Layout.{coded}

-- THE BITS THAT ARE WRONG of a page as it was read, in its areas and in its codes, where it was written as this page
unfoldable pub bits_wrong : Geometry → Page → Page → ℕ
bits_wrong g right r = bits_apart (coded g right).body r.body + bits_apart (coded g right).spare r.spare

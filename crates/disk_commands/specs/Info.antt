-- What is told of a disk.
use Rattle.std.specs.Prelude.{ℕ, ◌+◌, ◌-◌, ◌*◌, ◌^◌, ◌==◌, min, max, List, [], ◌++◌, codes, decimal, count_by, if◌then◌else◌, nat_le}
use Rattle.std.specs.List.{fold}
use Rattle.page_layout.specs.declared.geometry.Geometry.{Geometry}
use Rattle.certificate.specs.declared.block_state.BlockState.{BlockState}
use Rattle.certificate.specs.Claim.{Claim, is_good_state}
use Rattle.coded_store.specs.declared.coded.Mended.{Mended}
use Rattle.disk_commands.specs.declared.shapes.Code.{Code}
use Rattle.disk_commands.specs.declared.shapes.Code.TheVariants.{Plain, Hamming}
use Rattle.disk_commands.specs.declared.shapes.DiskShape.{DiskShape}
use Rattle.disk_damage.specs.Numbers.{counted_lines, with_commas}
use Rattle.disk_commands.specs.ShapeText.{geometry_words}
use Rattle.disk_commands.specs.declared.printed.Info.{Info}
use Rattle.disk_commands.specs.declared.printed.Form.{Form}
use Rattle.disk_commands.specs.declared.printed.Form.TheVariants.{Text, Json}

-- ---- the blocks

abbrev pub claimed_free_count : List BlockState → ℕ
claimed_free_count states = count_by (λ s. s.class == 0) states

abbrev pub bad_count : List BlockState → ℕ
bad_count states = count_by (λ s. nat_le 4 s.class) states

-- of the good blocks the most erases, the fewest, and all together, which stay at 2 ^ 64 - 1 once there
abbrev pub most_wear_of_good : List BlockState → ℕ
most_wear_of_good states = fold (λ most s. if is_good_state s then max s.wear most else most) 0 states

abbrev pub least_wear : List BlockState → ℕ
least_wear states = fold (λ least s. if is_good_state s then min s.wear least else least) (most_wear_of_good states) states

abbrev pub erase_sum : List BlockState → ℕ
erase_sum states = fold (λ sum s. if is_good_state s then min (sum + s.wear) (2 ^ 64 - 1) else sum) 0 states

abbrev pub info_of : DiskShape → Claim → Mended → Info
info_of s c mended = record {
  shape = s;
  free = claimed_free_count c.blocks;
  bad = bad_count c.blocks;
  least = least_wear c.blocks;
  most = most_wear_of_good c.blocks;
  erases = erase_sum c.blocks;
  next = c.next;
  mended = mended;
}

-- ---- the text

abbrev pub size_of : Geometry → ℕ
size_of g = g.sectors * g.data_bytes

abbrev pub lines_of : Info → List ℕ
lines_of i =
    codes "size " ++ (decimal (size_of i.shape.geometry) ++ (codes "\ngeometry " ++ (geometry_words i.shape.geometry ++ (codes "\ncache " ++ (decimal i.shape.cache
    ++ (codes "\nshare " ++ (decimal i.shape.share ++ (codes "\nfree " ++ (decimal i.free ++ (codes " bad " ++ (decimal i.bad ++ (codes "\nwear least " ++ (decimal i.least
    ++ (codes " most " ++ (decimal i.most ++ (codes " erases " ++ (decimal i.erases ++ (codes "\nnext " ++ (decimal i.next ++ codes "\n")))))))))))))))))))

abbrev pub wear_of : Info → List ℕ
wear_of i = codes "{\"least\":" ++ (decimal i.least ++ (codes ",\"most\":" ++ (decimal i.most ++ (codes ",\"erases\":" ++ (decimal i.erases ++ codes "}")))))

-- how many sectors are lost, and which, a line each
abbrev pub lost_lines : List ℕ → List ℕ
lost_lines lost = counted_lines (codes "lost ") (codes "lost sector ") lost

-- what was wrong with its pages, where they have a code: the bits that were turned back, and the pages that were lost
abbrev pub mended_lines : Code → Mended → List ℕ
mended_lines Plain mended = []
mended_lines Hamming mended = codes "code hamming\nturned " ++ (decimal mended.turned ++ (codes "\nlost pages " ++ (decimal mended.lost ++ codes "\n")))

abbrev pub mended_members : Code → Mended → List ℕ
mended_members Plain mended = []
mended_members Hamming mended = codes ",\"code\":\"hamming\",\"turned\":" ++ (decimal mended.turned ++ (codes ",\"lost_pages\":" ++ decimal mended.lost))

-- with the numbers of the lost sectors, which stand so
abbrev pub object_of : Info → (lost : List ℕ) → List ℕ
object_of i lost =
    codes "{\"size\":" ++ (decimal (size_of i.shape.geometry) ++ (codes ",\"geometry\":\"" ++ (geometry_words i.shape.geometry ++ (codes "\",\"cache\":" ++ (decimal i.shape.cache
    ++ (codes ",\"share\":" ++ (decimal i.shape.share ++ (codes ",\"free\":" ++ (decimal i.free ++ (codes ",\"bad\":"
    ++ (decimal i.bad ++ (codes ",\"wear\":" ++ (wear_of i ++ (codes ",\"next\":" ++ (decimal i.next ++ (codes ",\"lost\":[" ++ (lost ++ (codes "]" ++ (mended_members i.shape.code i.mended ++ codes "}\n")))))))))))))))))))

abbrev pub info_text : Form → Info → (lost : List ℕ) → List ℕ
info_text Text i lost = lines_of i ++ (lost_lines lost ++ mended_lines i.shape.code i.mended)
info_text Json i lost = object_of i (with_commas lost)

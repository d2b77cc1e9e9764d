-- THE LIST `UniqueAcross`: every contract there is an equation, of the answer and of what is lent. Assumes nothing.
use Rattle.demands.proofs.Unique.{equation, equations, in_bytes}
use Rattle.rack.specs.UniqueAcross.{UniqueAcross}

pub unique_across : UniqueAcross
unique_across = record {
  version = equation _;
  format-of = λ f. equation _;
  stepped = λ register. equation _;
  step = λ register. equations _ _;
  put_sync = λ f out. equations _ _;
  fresh = equation _;
  read = λ f setting s piece line. equations _ _;
  write_line = λ f line out. equations _ _;
  accepted = λ f line sector. equation _;
  answers = λ f line. equation _;
  filler = λ f line sector. equation _;
  data_of = λ f line sector out. equations _ _;
  pixels = λ f line sector out. equations _ _;
  pixels_wide = λ f line sector out. equations _ _;
  joined = λ f line channel out. equations _ _;
  strip = λ f line out. equations _ _;
  put_data = λ f line sector bytes. in_bytes _ _;
  put_pixels = λ f line sector ps. in_bytes _ _;
  put_pixels_wide = λ f line sector ps. in_bytes _ _;
  empty-report = equation _;
  with_line = λ f report line. equation _;
  together = λ a b. equation _;
  fresh_desk = λ count. equation _;
  take = λ d area. equation _;
  publish = λ d area i n. equation _;
  release = λ d area c i n. equation _;
  seen = λ d area c i n. equation _;
  read_integer = λ n bytes. equation _;
  read_bcd = λ n bytes. equation _;
  read_real = λ n m bytes. equation _;
  read_f64 = λ n m bytes. equation _;
  put_real = λ negative magnitude n m out. equations _ _;
  scan_mode = λ f line. equation _;
  scanner_select = λ f line. equation _;
  line_numbers = λ f line. equation _;
  date = λ f line. equation _;
  sub_commutation = λ f line. equation _;
  integer_field = λ f line place n. equation _;
  bcd_field = λ f line place n. equation _;
  real_field = λ f line place n m. equation _;
  f64-field = λ f line place n m. equation _;
  fresh-assembly = equation _;
  add_segment = λ f a line number block. equations _ _;
  revision = λ f a number block. equation _;
  mapping = λ f a block row column. equation _;
  albedo = λ f a block channel level. equation _;
  albedo_f64 = λ f a block channel level. equation _;
  temperature = λ f a block channel level. equation _;
  temperature_f64 = λ f a block channel level. equation _;
  elements = λ f a block. equation _;
}

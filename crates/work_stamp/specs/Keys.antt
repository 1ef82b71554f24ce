use Rattle.std.specs.Prelude.{Bool, ◌&&◌, ◌||◌, nat_lt, nat_eq}
use Rattle.work_stamp.specs.declared.key.Key.{Key}

-- whether a key comes before another: by the lesser stamp, and among equal stamps by the lesser slot
abbrev pub is_below : Key → Key → Bool
is_below a b = nat_lt a.stamp b.stamp || (nat_eq a.stamp b.stamp && nat_lt a.slot b.slot)

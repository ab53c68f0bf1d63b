-- Which boxes have a point in common.
use Rattle.std.specs.Prelude.{ℕ, ◌+◌, ◌-◌, ◌^◌, Bool, ◌&&◌, min, nat_lt}
use Rattle.bully_picture.specs.declared.boxes.Area.{Area}

-- where a stretch ends that starts here, as far as a number of 32 bits goes
abbrev pub end_of : ℕ → ℕ → ℕ
end_of start long = min (start + long) (2 ^ 32 - 1)

-- each of two stretches starts before the other one ends
abbrev pub overlap : ℕ → ℕ → ℕ → ℕ → Bool
overlap start long other other_long = nat_lt start (end_of other other_long) && nat_lt other (end_of start long)

-- from left to right, and from top to bottom
abbrev pub meets : Area → Area → Bool
meets one other = overlap one.x one.width other.x other.width && overlap one.y one.height other.y other.height

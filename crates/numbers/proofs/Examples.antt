-- The numbers 6 and 7, computed: by how many requests are queued and how many were accepted.
use mathlib.Core.Path.{◌≡◌, refl}
use mathlib.Core.List.{[], ◌∷◌}
use Rattle.numbers.specs.Numbers.{last_number, room_number_of}

room : room_number_of 0 0 ∷ room_number_of 7 4294967294 ∷ room_number_of 8 8 ∷ room_number_of 8 last_number ∷ room_number_of 7 last_number ∷ []
    ≡ 0 ∷ 0 ∷ 6 ∷ 6 ∷ 7 ∷ []
unfolding room_number_of
room = refl

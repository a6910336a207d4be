-- Where a day lies in its year, as whoever looks for holidays asks: no word of 01, each part is a definition of Days.
use Rattle.std.specs.Prelude.{ℕ, ◌-◌}
use Rattle.calendar_dates.specs.Days.{leap, new_year, year_of}
use Rattle.calendar_dates.specs.declared.Place.{Place}

unfoldable pub place_of : ℕ → Place
place_of d = record { year = year_of d; leap = leap (year_of d); passed = d - new_year (year_of d) }

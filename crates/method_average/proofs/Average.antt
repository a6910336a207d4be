-- Every line of the table of Average X of Y holds, by computation of the definitions.
use mathlib.Core.Path.{refl}
use Rattle.method.proofs.Checks.{definitions}
use Rattle.method_average.specs.Average.{hours, Average}

pub average : Average
unfolding definitions hours
average =
    record {
      table_8_28 = refl;
      table_8_23 = refl;
      table_10_saturday = refl;
      table_10_sunday = refl;
      tables_11_to_13 = refl;
      table_13_kilowatts = refl;
      table_11_high = refl;
      ten = refl;
      nine = refl;
      four = refl;
      three_and_one = refl;
      four_alone = refl;
      latest_spares = refl;
      spares_alone = refl;
      spares_five = refl;
      three = refl;
      three_spare = refl;
      three_early = refl;
      three_spare_early = refl;
      two = refl;
      two_spares = refl;
      two_early = refl;
      four_early = refl;
      one = refl;
      one_longer = refl;
      one_spare = refl;
      none = refl;
      ties = refl;
      all_alike = refl;
      saturday_5 = refl;
      saturday_4 = refl;
      saturday_3 = refl;
      saturday_2 = refl;
      saturday_1 = refl;
      saturday_none = refl;
      saturday_spare = refl;
      holiday_1 = refl;
      holiday_1_early = refl;
      holiday_2_early = refl;
      holiday_2 = refl;
      margin_10 = refl;
      margin_4 = refl;
      enough_4 = refl;
      without_window = refl;
      high_without = refl;
      late_notice = refl;
      no_room = refl;
      method_0 = refl;
      method_1 = refl;
      method_2 = refl;
      method_255 = refl;
      method_known = refl;
      list_first = refl;
    }

-- The worked example by evaluation (`first_program`, `second_defence`).
use Rattle.std.proofs.Common.{refl}
use Rattle.suit_cards.specs.Holdings.{suit}
use Rattle.suit_num.specs.Binomials.{next_row, binomial_row, binomial}
use Rattle.suit_num.specs.Divisors.{gcd_within, gcd_of, lcm_of}
use Rattle.suit_game.specs.Layouts.{choices_of, layouts}
use Rattle.suit_game.specs.Examples.{from_south, ten_cards}
use Rattle.suit_game.specs.Blocks.{blocks_of}
use Rattle.suit_game.specs.Question.{plain}
use Rattle.suit_layouts.specs.ClassLayouts.{class_layouts, class_weight, counts_up_to, weighed}
use Rattle.suit_classes.specs.Classes.{class_below}
use Rattle.suit_classes.specs.ClassPlaces.{class_numbers, dealt_to, none_played}
use Rattle.suit_classes.specs.WhatIsAllowed.{every_move, is_among}
use Rattle.suit_plans.specs.Masses.{count_of, mass_from, mass_of}
use Rattle.suit_plans.specs.Orders.{same_class_history}
use Rattle.suit_plans.specs.Properness.{sum_of}
use Rattle.suit_program.specs.Supports.{supported_moves, declarer_chooses, defence_chooses, goes_supported, is_reached}
use Rattle.suit_program.specs.Supports.{reached_layouts, next_moves, histories_from, reached_histories, has_declarers}
use Rattle.suit_program.specs.Supports.{has_defences, with_moves, are_new}
use Rattle.suit_program.specs.Programs.Points.{given_to, same_column}
use Rattle.suit_program.specs.Programs.Worths.{worth_within, objective_at}
use Rattle.suit_program.specs.Programs.{held_column, answered_limits, columns_at, limits_at, columns, limits, excess}
use Rattle.suit_program.specs.Programs.{program_of, size_of, supported_worth}
use Rattle.suit_program.specs.Readings.{read_from, read_mass, has_row, row_counts, common_den, plan_den, plan_point}
use Rattle.suit_program.specs.Readings.{plan_at, filled, is_answer, price_of, defence_of}
use Rattle.suit_program.specs.Readings.Examples.{both_twos, second_support, second_point, second_prices, FirstColumns}
use Rattle.suit_program.specs.Readings.Examples.{FirstProgram, FirstSize, TwosAreNew, SecondProgram, SecondSize}
use Rattle.suit_program.specs.Readings.Examples.{SecondPlan}
use Rattle.suit_program.specs.Readings.Examples.{SecondDefence, SecondWorth}

pub first_columns : FirstColumns
unfolding suit next_row binomial_row binomial choices_of layouts plain from_south ten_cards blocks_of class_layouts
    class_weight counts_up_to weighed class_below class_numbers dealt_to none_played every_move is_among count_of
    mass_from mass_of same_class_history sum_of supported_moves declarer_chooses defence_chooses goes_supported
    is_reached reached_layouts next_moves histories_from reached_histories held_column answered_limits columns_at
    limits_at columns limits
first_columns = refl

pub first_program : FirstProgram
unfolding suit next_row binomial_row binomial choices_of layouts plain from_south ten_cards blocks_of class_layouts
    class_weight counts_up_to weighed class_below class_numbers dealt_to none_played every_move is_among count_of
    mass_from mass_of same_class_history sum_of supported_moves declarer_chooses defence_chooses goes_supported
    is_reached reached_layouts next_moves histories_from reached_histories held_column answered_limits columns_at
    limits_at columns limits same_column worth_within objective_at excess program_of size_of supported_worth
first_program = refl

pub first_size : FirstSize
unfolding suit next_row binomial_row binomial choices_of layouts plain from_south ten_cards blocks_of class_layouts
    class_weight counts_up_to weighed class_below class_numbers dealt_to none_played every_move is_among count_of
    mass_from mass_of same_class_history sum_of supported_moves declarer_chooses defence_chooses goes_supported
    is_reached reached_layouts next_moves histories_from reached_histories held_column answered_limits columns_at
    limits_at columns limits size_of
first_size = refl

pub twos_are_new : TwosAreNew
unfolding suit next_row binomial_row binomial choices_of layouts plain from_south ten_cards blocks_of class_layouts
    class_weight counts_up_to weighed class_below class_numbers dealt_to none_played every_move is_among count_of
    mass_from mass_of same_class_history sum_of supported_moves declarer_chooses defence_chooses goes_supported
    is_reached reached_layouts next_moves histories_from reached_histories held_column answered_limits columns_at
    limits_at columns limits has_declarers has_defences with_moves are_new both_twos second_support
twos_are_new = (refl, refl)

pub second_program : SecondProgram
unfolding suit next_row binomial_row binomial choices_of layouts plain from_south ten_cards blocks_of class_layouts
    class_weight counts_up_to weighed class_below class_numbers dealt_to none_played every_move is_among count_of
    mass_from mass_of same_class_history sum_of supported_moves declarer_chooses defence_chooses goes_supported
    is_reached reached_layouts next_moves histories_from reached_histories held_column answered_limits columns_at
    limits_at columns limits same_column worth_within objective_at excess program_of size_of supported_worth
    has_declarers has_defences with_moves are_new both_twos second_support
second_program = refl

pub second_size : SecondSize
unfolding suit next_row binomial_row binomial choices_of layouts plain from_south ten_cards blocks_of class_layouts
    class_weight counts_up_to weighed class_below class_numbers dealt_to none_played every_move is_among count_of
    mass_from mass_of same_class_history sum_of supported_moves declarer_chooses defence_chooses goes_supported
    is_reached reached_layouts next_moves histories_from reached_histories held_column answered_limits columns_at
    limits_at columns limits has_declarers has_defences with_moves are_new both_twos second_support size_of
second_size = refl

pub second_plan : SecondPlan
unfolding suit next_row binomial_row binomial choices_of layouts plain from_south ten_cards blocks_of class_layouts
    class_weight counts_up_to weighed class_below class_numbers dealt_to none_played every_move is_among count_of
    mass_from mass_of same_class_history sum_of supported_moves declarer_chooses defence_chooses goes_supported
    is_reached reached_layouts next_moves histories_from reached_histories held_column answered_limits columns_at
    limits_at columns limits same_column worth_within objective_at excess program_of size_of supported_worth
    has_declarers has_defences with_moves are_new both_twos second_support gcd_within gcd_of lcm_of given_to read_from
    read_mass has_row row_counts common_den plan_den plan_point plan_at filled is_answer price_of defence_of
    second_point
second_plan = refl

pub second_defence : SecondDefence
unfolding suit next_row binomial_row binomial choices_of layouts plain from_south ten_cards blocks_of class_layouts
    class_weight counts_up_to weighed class_below class_numbers dealt_to none_played every_move is_among count_of
    mass_from mass_of same_class_history sum_of supported_moves declarer_chooses defence_chooses goes_supported
    is_reached reached_layouts next_moves histories_from reached_histories held_column answered_limits columns_at
    limits_at columns limits same_column worth_within objective_at excess program_of size_of supported_worth
    has_declarers has_defences with_moves are_new both_twos second_support gcd_within gcd_of lcm_of given_to read_from
    read_mass has_row row_counts common_den plan_den plan_point plan_at filled is_answer price_of defence_of
    second_prices
second_defence = refl

pub second_worth : SecondWorth
unfolding suit next_row binomial_row binomial choices_of layouts plain from_south ten_cards blocks_of class_layouts
    class_weight counts_up_to weighed class_below class_numbers dealt_to none_played every_move is_among count_of
    mass_from mass_of same_class_history sum_of supported_moves declarer_chooses defence_chooses goes_supported
    is_reached reached_layouts next_moves histories_from reached_histories held_column answered_limits columns_at
    limits_at columns limits same_column worth_within objective_at excess program_of size_of supported_worth
    has_declarers has_defences with_moves are_new both_twos second_support
second_worth = refl

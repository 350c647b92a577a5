use Rattle.delta.proofs.Examples.{one_to_five, down_and_up, least_and_greatest, one_and_more, no_values, unneeded_widths, not_four, three_values, not_negative, four_values}
use Rattle.delta.proofs.TwoBlocks.{two_blocks_stand, two_blocks_written}
use Rattle.delta.proofs.laws.worked_examples.Goals as goal

pub returns : goal.returns
returns c = record {
  one_to_five = one_to_five;
  down_and_up = down_and_up;
  two_blocks = two_blocks_stand;
  two_blocks_written = two_blocks_written;
  extremes = least_and_greatest;
  far = one_and_more;
  none = no_values;
  unneeded = unneeded_widths;
  other_count = not_four;
  lengths = three_values;
  negative = not_negative;
  prefixes = four_values;
}

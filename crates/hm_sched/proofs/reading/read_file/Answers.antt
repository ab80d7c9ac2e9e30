use Rattle.std.proofs.Common.{◌≡◌, Some, rules}
use Rattle.hm_text_base.specs.Spans.{lines_of}
use Rattle.hm_sched.specs.Schedule.{IsFormat}
use Rattle.hm_sched.specs.ReadFile.{header_in, region_in, floor_in}
use Rattle.hm_sched.proofs.FileLaws.{Within, IsFloor, ProcessFound, header_found, region_found, floor_found, process_from_found}
use Rattle.hm_sched.proofs.reading.read_file.Goals as goal

-- what the lines of the head say
module _ (c : goal.After-rest-5-1) where
  known : IsFormat c.in-Some.format
  known =
      let e : header_in c.in_ok-first.first.now ≡ Some c.in-Some.format = search rules in
      (header_found c.in_ok-first.first.now c.in-Some.format e).1

  region : Within c.in-Some-read_region.lo c.in-Some-read_region.hi
  region =
      let e : region_in c.in_ok-third.third.now ≡ Some (c.in-Some-read_region.lo, c.in-Some-read_region.hi) = search rules in
      (region_found c.in_ok-third.third.now (c.in-Some-read_region.lo, c.in-Some-read_region.hi) e).1

  floor : IsFloor c.in-Some-read_floor.floor
  floor =
      let e : floor_in c.in_ok-fourth.fourth.now ≡ Some c.in-Some-read_floor.floor = search rules in
      (floor_found c.in_ok-fourth.fourth.now c.in-Some-read_floor.floor e).1

  process : ProcessFound c.in-Some.format c.in-Some-read_floor.floor (lines_of c.in_ok-fourth.rest.now)
      (c.in_ok-process.process, lines_of c.in_ok-process.rest.now)
  process = process_from_found c.in-Some.format c.in-Some-read_floor.floor (lines_of c.in_ok-fourth.rest.now)
      (c.in_ok-process.process, lines_of c.in_ok-process.rest.now) known floor c.in_ok-process.ensures

pub of_format-requires-clause-known : goal.of_format-requires-clause-known
of_format-requires-clause-known c = known c

pub of_format-requires-clause-region_start : goal.of_format-requires-clause-region_start
of_format-requires-clause-region_start c = (region c).low

pub of_format-requires-clause-region_order : goal.of_format-requires-clause-region_order
of_format-requires-clause-region_order c = (region c).order

pub of_format-requires-clause-region_end : goal.of_format-requires-clause-region_end
of_format-requires-clause-region_end c = (region c).high

pub of_format-requires-clause-floor_start : goal.of_format-requires-clause-floor_start
of_format-requires-clause-floor_start c = (floor c).low

pub of_format-requires-clause-floor_end : goal.of_format-requires-clause-floor_end
of_format-requires-clause-floor_end c = (floor c).high

pub of_format-requires-clause-process_start : goal.of_format-requires-clause-process_start
of_format-requires-clause-process_start c = (process c).fits.low

pub of_format-requires-clause-process_end : goal.of_format-requires-clause-process_end
of_format-requires-clause-process_end c = (process c).fits.high

pub of_format-requires-clause-one_floor : goal.of_format-requires-clause-one_floor
of_format-requires-clause-one_floor c = (process c).one_floor

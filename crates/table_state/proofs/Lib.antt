mod RowFaults

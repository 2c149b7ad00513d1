mod Meeting
